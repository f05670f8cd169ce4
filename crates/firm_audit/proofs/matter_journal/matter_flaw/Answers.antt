use Rattle.firm_audit.proofs.Names.{List, refl, subst, ◌∙◌, Movement, Kept, IsUnlikeAmong}
use Rattle.firm_audit.proofs.Strays.{unlike-of}
use Rattle.firm_audit.proofs.matter_journal.matter_flaw.Goals as goal

pub returns-in-Some-clause-flaw : goal.returns-in-Some-clause-flaw
returns-in-Some-clause-flaw c =
    let m = c.args.kept.now.number in
    let n = c.in-Some.entry in (
      refl,
      unlike-of c.args.kept.now c.args.movements.now n c.requires
          (subst (λ (own : List Movement). IsUnlikeAmong m c.args.kept.now.matter.kept own n) (c.deref.ensures.value ∙ c.in_ok-own.ensures)
          (subst (λ (ks : List Kept). IsUnlikeAmong m ks c.deref.result.now n) c.kept.ensures c.in-Some.ensures.some)),
    )
