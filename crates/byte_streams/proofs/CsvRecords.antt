-- The next record of those that a CSV reader has still to give.
use Rattle.byte_streams.proofs.Names.{◌≡◌, ◌<◌, ◌+◌, ℕ, zero, suc, List, [], ◌∷◌, length, Option, Some, None, refl, sym, ap, ◌∙◌, arith, inl, inr, ◌⊎◌, add-one, cases_Bool, Read, ends_at_end, field_after, fields_after, is_end, next_record, step, Reached, default_config, records_from, records_next, State, rest_records, ints, nat_tests}
use Rattle.csv.specs.declared.parser.Config.{Config}
use Rattle.csv.specs.declared.parser.State.TheVariants as st

same_read : (q p : Read) → Some q ≡ Some p → q ≡ p
same_read q p e = cc

-- a record took bytes, or ended the text
abbrev TookBytes : List ℕ → Read → Type 0
TookBytes y p = (length p.2 < length y) ⊎ ((p.1 ≡ st.StartRecord) × (p.2 ≡ []))

ended : (fields : List (List ℕ)) (p : Read) → Some (fields, st.StartRecord, []) ≡ Some p → (p.1 ≡ st.StartRecord) × (p.2 ≡ [])
ended fields p e = grind (arith, ints, nat_tests, same_read)

took : (fields : List (List ℕ)) (s : State) (y : List ℕ) (p : Read) → Some (fields, s, y) ≡ Some p → length p.2 ≡ length y
took fields s y p e = sym (ap (λ (r : Read). length r.2) (same_read (fields, s, y) p e))

longer : (c : ℕ) (y : List ℕ) (p : Read) → TookBytes y p → TookBytes (c ∷ y) p
longer c y p x3 = grind (arith, ints, nat_tests)

takes : (cfg : Config) (s : State) (f : List (List ℕ)) (d y : List ℕ) (p : Read) → next_record cfg s f d y ≡ Some p → TookBytes y p
unfolding next_record
takes cfg s f d [] p e = grind (arith, ints, nat_tests, cases_Bool, ends_at_end, ended)
takes cfg s f d (c ∷ y) p e = elim (cases_Bool (is_end (step cfg s c).1)) [
  | inl t ↦ let same = took (fields_after (step cfg s c).1 f d) (step cfg s c).0 y p (rw t at e) in inl (omega arith)
  | inr t ↦ longer c y p (takes cfg (step cfg s c).0 (fields_after (step cfg s c).1 f d) (field_after (step cfg s c).1 c d) y p (rw t at e))
]

-- there are turns enough for what is left
abbrev Enough : ℕ → State → List ℕ → Type 0
Enough n s y = (length y < n) ⊎ ((s ≡ st.StartRecord) × (y ≡ []))

none_left : (cfg : Config) (n : ℕ) → records_from cfg n st.StartRecord [] ≡ []
unfolding records_from next_record
none_left cfg n = grind (arith, ints, nat_tests)

later : (n : ℕ) (s : State) (y : List ℕ) (p : Read) → (cfg : Config) → next_record cfg s [] [] y ≡ Some p → Enough (suc n) s y → Enough n p.1 p.2
unfolding next_record
later n s y p cfg e a = grind (arith, ints, nat_tests, takes)

same_turns : (cfg : Config) (n m : ℕ) (s : State) (y : List ℕ) → Enough n s y → Enough m s y → records_from cfg n s y ≡ records_from cfg m s y
unfolding records_from
same_turns cfg zero m s y (inl room) b = absurd (omega arith)
same_turns cfg zero m s y (inr last) b = rw (last.0, last.1) (sym (none_left cfg m))
same_turns cfg (suc n) zero s y a (inl room) = absurd (omega arith)
same_turns cfg (suc n) zero s y a (inr last) = rw (last.0, last.1) (none_left cfg (suc n))
same_turns cfg (suc n) (suc m) s y a b = by (next_record cfg s [] [] y) refl (λ (p : Read) (e : next_record cfg s [] [] y ≡ Some p). same_turns cfg n m p.1 p.2 (later n s y p cfg e a) (later m s y p cfg e b))
  where
    by : (o : Option Read) → next_record cfg s [] [] y ≡ o → ((p : Read) → next_record cfg s [] [] y ≡ Some p → records_from cfg n p.1 p.2 ≡ records_from cfg m p.1 p.2)
        → records_next (records_from cfg n) (next_record cfg s [] [] y) ≡ records_next (records_from cfg m) (next_record cfg s [] [] y)
    by None e more = rw e refl
    by (Some p) e more = rw e (ap (λ (rest : List (List (List ℕ))). p.0 ∷ rest) (more p e))

-- the next record is the first of those left
pub rest-more : (s s2 : State) (y z : List ℕ) (f : List (List ℕ)) → next_record default_config s [] [] y ≡ Some (f, s2, z) → rest_records s y ≡ f ∷ rest_records s2 z
unfolding records_from
rest-more s s2 y z f e =
    let enough = later (length y) s y (f, s2, z) default_config e (inl (omega arith)) in
    rw (add-one (length y), e) (ap (λ (rest : List (List (List ℕ))). f ∷ rest) (same_turns default_config (length y) (length z + 1) s2 z enough (inl (omega arith))))

-- where there is none, none is left
pub rest-none : (s : State) (y : List ℕ) → next_record default_config s [] [] y ≡ None → rest_records s y ≡ []
unfolding records_from
rest-none s y e = rw (add-one (length y), e) refl

read_parts : (p : Read) (f : List (List ℕ)) (s : State) (z : List ℕ) → f ≡ p.0 → p.1 ≡ s → p.2 ≡ z → (f, s, z) ≡ p
read_parts p f s z a b d = rw (a, ← b, ← d) refl

-- a record that was reached is the first of those left
pub rest-reached : (s s2 : State) (y z : List ℕ) (f : List (List ℕ)) → Reached default_config s y (f ∷ []) s2 z → rest_records s y ≡ f ∷ rest_records s2 z
unfolding Reached
rest-reached s s2 y z f r =
    let (p, next, field, tail) = r in
    let same : (f, s2, z) ≡ p = read_parts p f s2 z field tail.0 tail.1 in
    rest-more s s2 y z f (next ∙ ap (λ (q : Read). Some q) (sym same))
