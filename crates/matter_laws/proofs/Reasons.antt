-- The reason that a line is told is the first that holds.
use Rattle.matter_laws.proofs.Names.{◌≡◌, Bool, true, false, cond, List, [], ◌∷◌, refl, ap, Option, Some, None, is_line_again, DatedEdit, Reason, IsFirstReason, FirstReason, NoReason, line_facts, first_reason, reasons, dated_by, matched, IsApplied, arith, ints, nat_tests}
use Rattle.trust_matter.specs.declared.line_verdict.LineEffect.TheVariants as told
use Rattle.trust_matter.proofs.LineSteps.{none-hold}

told-is : (b : Bool) (o : Option Reason) (e : DatedEdit) (r : Reason) → cond b told.Repeat (matched o e) ≡ told.Unmatched r → o ≡ Some r
told-is b o e r h = grind (arith, ints, nat_tests)

none-told : (b : Bool) (o : Option Reason) (e : DatedEdit) → IsApplied (cond b told.Repeat (matched o e)) → o ≡ None
none-told b o e h = grind (arith, ints, nat_tests)

first-is : (cs : List (Bool × Reason)) (r : Reason) → first_reason cs ≡ Some r → IsFirstReason cs r
first-is [] r h = absurd (cc)
first-is ((true, q) ∷ cs) r h =
    let is : q ≡ r = cc in
    record { before = []; behind = cs; table = ap (λ (x : Reason). (true, x) ∷ cs) is; none_before = tt }
first-is ((false, q) ∷ cs) r h =
    let rest = first-is cs r h in
    record { before = (false, q) ∷ rest.before; behind = rest.behind; table = ap (λ ds. (false, q) ∷ ds) rest.table; none_before = (refl, rest.none_before) }

pub first-reason : FirstReason
first-reason rows l today r h = search (line_facts, first-is, reasons, told-is, is_line_again, dated_by)

pub no-reason : NoReason
no-reason rows l today h = search (line_facts, none-hold, reasons, none-told, is_line_again, dated_by)
