-- Behind the last number no entry is made.
use Rattle.matter_laws.proofs.Names.{is_some, ◌≡◌, ℕ, Bool, true, false, cond, List, [], ◌∷◌, refl, rules, Option, Some, None, false≢true, Refusal, next_number, is_repeat, misses, number_made, Asked, Facts, facts_of, TellsNoNumber, FullTakesNone, first, conditions, early_conditions}
use Rattle.trust_matter.proofs.Table.{passes}

-- none of these tells a number
abbrev TellNoNumber : List (Bool × Refusal) → Type 0
TellNoNumber [] = Unit {0}
TellNoNumber (c ∷ cs) = TellsNoNumber (Some c.1) × TellNoNumber cs

first-tells : (cs : List (Bool × Refusal)) → TellNoNumber cs → (first cs ≡ None → ⊥) → TellsNoNumber (first cs)
first-tells [] h refused = refused refl
first-tells ((true, r) ∷ cs) h refused = h.0
first-tells ((false, r) ∷ cs) h refused = first-tells cs h.1 refused

none-next : (count : ℕ) → count ≡ 9_999 → next_number count ≡ None
none-next count h = rw h refl

table-tells : (f : Facts) (a : Asked) → next_number f.count ≡ None → TellNoNumber (conditions f a)
table-tells f a h = search (rules, h)

missed : (next : Option ℕ) (o : Option ℕ) → next ≡ None → is_some o ≡ true → misses next o ≡ true
missed next o h g = search (rules, false≢true)

tells : (b : Bool) (f : Facts) (a : Asked) → b ≡ false → next_number f.count ≡ None → is_some (number_made a.ask) ≡ true → TellsNoNumber (first (cond b (early_conditions f a) (conditions f a)))
tells b f a h none makes = grind (rules, false≢true, first-tells, table-tells, passes, missed)

pub full-takes-none : FullTakesNone
full-takes-none rows a full makes new = search (rules, facts_of, tells, is_repeat, none-next)
