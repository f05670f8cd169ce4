use Rattle.firm_audit.proofs.Names.{◌≡◌, List, None, subst, rules, AllByRecursion, KeptMatter}
use Rattle.std.proofs.lemmas.Result.{IfOk-weaker}
use Rattle.firm_rows.specs.declared.matter_act.MatterAct.{MatterAct}
use Rattle.firm_audit.specs.Trails.{AreMattersFound, HasActsAlone, IsAmong}
use Rattle.firm_audit.proofs.FirmTrails.{alone-flawed, matters-tell}
use Rattle.firm_audit.proofs.trail.audit_trail.Goals as goal

pub returns-in-Some : goal.returns-in-Some
returns-in-Some c =
    alone-flawed c.args.rows.now c.requires c.in-Some.matter
    (subst (λ (ks : List KeptMatter). HasActsAlone ks c.args.rows.now.acts.items c.in-Some.matter) c.deref.ensures.value
    (subst (λ (acts : List MatterAct). HasActsAlone c.deref.result.now acts c.in-Some.matter) c.deref-2.ensures.value
    c.in-Some.ensures.some))

pub returns : goal.returns
returns c =
    let ks = c.args.rows.now.matters.items in
    let acts = c.args.rows.now.acts.items in
    let none : c.unowned.result ≡ None = search rules in
    let among : AllByRecursion (λ a. IsAmong ks a.matter) acts =
    subst (λ (xs : List KeptMatter). AllByRecursion (λ a. IsAmong xs a.matter) acts) c.deref.ensures.value
    (subst (λ (xs : List MatterAct). AllByRecursion (λ a. IsAmong c.deref.result.now a.matter) xs) c.deref-2.ensures.value
    (c.unowned.ensures.none none)) in
    IfOk-weaker c.matters_found.result _ _
    (λ told is. matters-tell c.args.rows.now c.requires told among
    (subst (λ (xs : List KeptMatter). AreMattersFound xs acts told) c.deref-3.ensures.value
    (subst (λ (xs : List MatterAct). AreMattersFound c.deref-3.result.now xs told) c.deref-4.ensures.value is)))
    c.matters_found.ensures
