use Rattle.firm_audit.proofs.Names.{◌≡◌, List, [], ◌∷◌, length, true, false, None, refl, sym, ◌∙◌, arith, rules, subst, false≢true, entries_kept, AllByRecursion, Kept}
use Rattle.std.proofs.lemmas.Result.{IfOk-weaker}
use Rattle.matter_rows.specs.declared.act.Act.{Act}
use Rattle.matter_rows.specs.Rows.{is_gone}
use Rattle.trail_laws.specs.Signed.{begins_with_opening}
use Rattle.trail_laws.specs.Replayed.{IsReplayed}
use Rattle.firm_audit.specs.Trails.{AreEntriesFound, IsOfEntry, MayBeAllowed, dossier_kept}
use Rattle.firm_audit.proofs.FoundTrails.{entries-tell}
use Rattle.firm_audit.proofs.trail.matter_found.Goals as goal
use Rattle.firm_audit.proofs.trail.matter_found.Goals.{then-is_gone+else-not-is_empty, else-is_gone, then-begins_with_opening+in_ok-flaw+in_default, else-begins_with_opening+else-not-may_all_be_allowed}

empty : (acts : List Act) → length acts ≡ 0 → acts ≡ []
empty [] none = refl
empty (act ∷ acts) none = absurd (omega arith)

pub returns : goal.returns
returns c =
    let k = c.args.kept.now in
    let acts = c.args.acts.now in
    let gone : is_gone k.matter.head ≡ true → acts ≡ [] = elim c.if-is_gone.branch [
      | then-is_gone+else-not-is_empty w ↦ λ is. empty acts (search rules)
      | else-is_gone w ↦ λ is. absurd (false≢true (sym w.if-is_gone.false ∙ (c.is_gone.ensures ∙ is)))
    ] in
    let replayed : begins_with_opening acts ≡ true → IsReplayed k.number (dossier_kept k acts) = elim c.if-begins_with_opening.branch [
      | then-begins_with_opening+in_ok-flaw+in_default w ↦ λ is. search rules
      | else-begins_with_opening+else-not-may_all_be_allowed w ↦ λ is. absurd (false≢true (sym w.if-begins_with_opening.false ∙ (c.begins_with_opening.ensures ∙ is)))
    ] in
    let allowed : begins_with_opening acts ≡ false → AllByRecursion MayBeAllowed acts = elim c.if-begins_with_opening.branch [
      | then-begins_with_opening+in_ok-flaw+in_default w ↦ λ later. absurd (false≢true (sym later ∙ (sym c.begins_with_opening.ensures ∙ w.if-begins_with_opening.true)))
      | else-begins_with_opening+else-not-may_all_be_allowed w ↦ λ later. w.may_all_be_allowed.ensures.0 w.if-not-may_all_be_allowed.false
    ] in
    let none : c.stray_entry.result ≡ None = search rules in
    let there : AllByRecursion (λ act. IsOfEntry (entries_kept k.matter.kept) act.entry) acts =
    subst (λ (ks : List Kept). AllByRecursion (λ act. IsOfEntry (entries_kept ks) act.entry) acts) c.kept-entries.ensures
    (c.stray_entry.ensures.none none) in
    IfOk-weaker c.entries_found.result _ _
    (λ told is. entries-tell k acts c.requires.whole.numbered gone replayed c.requires.sound allowed there c.args.before told
    (subst (λ (ks : List Kept). AreEntriesFound k.number ks acts c.args.before told) c.kept-entries.ensures is))
    c.entries_found.ensures
