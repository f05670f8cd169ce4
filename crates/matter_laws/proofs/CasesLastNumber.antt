-- Behind the last number no entry is made.
use Rattle.matter_laws.proofs.Names.{Bool, Entry, Head, List, None, Seat, Some, arith, cond, conditions, early_conditions, facts_of, false, false≢true, first, is_of_nobody, is_repeat, length, nat_lt, nat_tests, refusal, true, ℕ, ◌≡◌, ◌≤◌}
use Rattle.trust_base.specs.declared.refusal.Refusal.TheVariants as refusals
use Rattle.matter_laws.specs.Cases.{by_cashier, retainer, FullIsTold}

not-back : (day last : ℕ) → last ≤ day → nat_lt day last ≡ false
not-back day last h = grind (arith, nat_tests)

told : (h : Head) (seats : List Seat) (es : List Entry) (number cents day : ℕ) → h.closed ≡ None → is_of_nobody h.holder ≡ false → h.last ≤ day → length es ≡ 9_999 → (b : Bool) → b ≡ false → first (cond b (early_conditions (facts_of (record { head = Some h; seats = seats; entries = es }) (retainer number cents)) (by_cashier (retainer number cents) day)) (conditions (facts_of (record { head = Some h; seats = seats; entries = es }) (retainer number cents)) (by_cashier (retainer number cents) day))) ≡ Some (refusals.WrongNumber None)
told h seats es number cents day unclosed kept forwards full b new = grind (arith, nat_tests, false≢true, not-back)

pub full-is-told : FullIsTold
full-is-told rows h number cents day is = grind (arith, nat_tests, told, refusal, is_repeat)
