use Rattle.matter_rows.specs.declared.act.Act.{Act}
use Rattle.trust_matter.proofs.Names.{IfOk, IsMade, Option, arith, common_steps, last_after, rules, subst, ℕ, ◌≡◌}
use Rattle.trust_matter.proofs.Decided.{made-by}
use Rattle.trust_matter.proofs.deciding.change_by.Goals as goal

pub returns : goal.returns
returns c =
    let m = c.args.matter.now in
    let e = c.args.edit in
    let last : c.match-head.last ≡ last_after m.head e c.args.day = first_of (search rules, grind (arith, common_steps)) in
    let made = subst (λ (n : ℕ). IfOk c.change_of.result (λ x. IsMade m e n x)) last c.change_of.ensures.ok in
    let has =
    subst (λ (o : Option Act). IfOk c.change_of.result (λ x. x.act ≡ o)) c.in_ok-act.ensures c.change_of.ensures.act in
    made-by m e _ _ c.change_of.result made has c.change_of.ensures.err c.change_of.ensures.store
