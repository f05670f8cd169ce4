-- The table of refusals gives the least number whose condition holds.
use Rattle.trust_matter.proofs.Names.{Asked, Bool, Facts, LeastRefusal, List, NoRefusal, None, Refusal, Some, Stands, [], arith, cond, conditions, early_conditions, false, false≢true, first, goes_backwards, has_a_seat_already, has_no_seat, has_none_to_drop, inl, inr, is_bad_split, is_closed, is_in_another_state, is_not_empty, is_not_next, is_not_there, is_of_another_kind, is_opened_already, is_repeat, is_short, later_conditions, le_refl, refl, rules, subst, sym, true, was_purged, ℕ, ⊎_elim, ◌++◌, ◌<◌, ◌∙◌, ◌∷◌, ◌≡◌, ◌≤◌, ◌⊎◌, Holds, IsLeast}
use Rattle.trust_base.specs.Refusals.{number_of}

-- the numbers do not fall
abbrev pub Rises : ℕ → List (Bool × Refusal) → Type 0
Rises n [] = Unit {0}
Rises n (c ∷ cs) = (n ≤ number_of c.1) × Rises (number_of c.1) cs

-- no condition holds
abbrev pub NoneHolds : {R : Type 0} → List (Bool × R) → Type 0
NoneHolds [] = Unit {0}
NoneHolds (c ∷ cs) = (c.0 ≡ false) × NoneHolds cs

none_hold : (cs : List (Bool × Refusal)) → first cs ≡ None → NoneHolds cs
none_hold [] h = tt
none_hold ((true, r) ∷ cs) h = absurd (cc)
none_hold ((false, r) ∷ cs) h = (refl, none_hold cs h)

-- no condition of the table holds; those that proofs cite
pub record Passes (f : Facts) (a : Asked) : Type 0 where
  pub seat : has_no_seat f a ≡ false
  pub kept : was_purged f a ≡ false
  pub not_opened : is_opened_already f a ≡ false
  pub not_closed : is_closed f a ≡ false
  pub forwards : goes_backwards f a ≡ false
  pub next : is_not_next f a ≡ false
  pub there : is_not_there f a ≡ false
  pub kind : is_of_another_kind f a ≡ false
  pub state : is_in_another_state f a ≡ false
  pub split : is_bad_split f a ≡ false
  pub enough : is_short f a ≡ false
  pub seat_free : has_a_seat_already f a ≡ false
  pub seat_taken : has_none_to_drop f a ≡ false
  pub empty : is_not_empty f a ≡ false

pub passes : (f : Facts) (a : Asked) → first (conditions f a) ≡ None → Passes f a
passes f a h = let n : NoneHolds (conditions f a) = none_hold (conditions f a) h in assumption

pub first_stands : (cs : List (Bool × Refusal)) (r : Refusal) → first cs ≡ Some r → Stands cs r
first_stands [] r h = absurd (cc)
first_stands ((true, q) ∷ cs) r h = inl (refl, (cc))
first_stands ((false, q) ∷ cs) r h = inr (first_stands cs r h)

above : (n : ℕ) (cs : List (Bool × Refusal)) (q : Refusal) → Rises n cs → Stands cs q → n ≤ number_of q
above n [] q up h = absurd h
above n (c ∷ cs) q up (inl h) = subst (λ (x : Refusal). n ≤ number_of x) h.1 up.0
above n (c ∷ cs) q up (inr h) = let rest : number_of c.1 ≤ number_of q = above (number_of c.1) cs q up.1 h in let here : n ≤ number_of c.1 = up.0 in omega arith

pub first_least : (n : ℕ) (cs : List (Bool × Refusal)) (r q : Refusal) → Rises n cs → first cs ≡ Some r → Stands cs q → number_of r ≤ number_of q
first_least n [] r q up h at = absurd at
first_least n ((true, p) ∷ cs) r q up h at = grind (arith, above, le_refl)
first_least n ((false, p) ∷ cs) r q up h (inl at) = absurd (false≢true at.0)
first_least n ((false, p) ∷ cs) r q up h (inr at) = first_least (number_of p) cs r q up.1 h at

pub first_none_stands : (cs : List (Bool × Refusal)) (q : Refusal) → first cs ≡ None → Stands cs q → ⊥
first_none_stands [] q h at = at
first_none_stands ((true, p) ∷ cs) q h at = absurd (cc)
first_none_stands ((false, p) ∷ cs) q h (inl at) = false≢true at.0
first_none_stands ((false, p) ∷ cs) q h (inr at) = first_none_stands cs q h at

pub table_rises : (f : Facts) (a : Asked) → Rises 0 (conditions f a)
table_rises f a = search rules

-- the first of the front is the first of all
first_of_front : (xs ys : List (Bool × Refusal)) (r : Refusal) → first xs ≡ Some r → first (xs ++ ys) ≡ Some r
first_of_front [] ys r h = absurd (cc)
first_of_front ((true, q) ∷ xs) ys r h = h
first_of_front ((false, q) ∷ xs) ys r h = first_of_front xs ys r h

-- no number is above n
abbrev AreUpTo : ℕ → List (Bool × Refusal) → Type 0
AreUpTo n [] = Unit {0}
AreUpTo n (c ∷ cs) = (number_of c.1 ≤ n) × AreUpTo n cs

below : (n : ℕ) (cs : List (Bool × Refusal)) (q : Refusal) → AreUpTo n cs → Stands cs q → number_of q ≤ n
below n [] q up h = absurd h
below n (c ∷ cs) q up (inl h) = subst (λ (x : Refusal). number_of x ≤ n) h.1 up.0
below n (c ∷ cs) q up (inr h) = below n cs q up.1 h

stands_apart : (xs ys : List (Bool × Refusal)) (q : Refusal) → Stands (xs ++ ys) q → Stands xs q ⊎ Stands ys q
stands_apart [] ys q h = inr h
stands_apart (x ∷ xs) ys q (inl h) = inl (inl h)
stands_apart (x ∷ xs) ys q (inr h) = ⊎_elim (λ (l : Stands xs q). inl (inr l)) (λ (r : Stands ys q). inr r) (stands_apart xs ys q h)

-- of a repeat only the early conditions are tried
least-by : (f : Facts) (a : Asked) (r : Refusal) (b : Bool) → is_repeat f a ≡ b
    → first (cond b (early_conditions f a) (conditions f a)) ≡ Some r → IsLeast f a r
least-by f a r true is h =
    let all = first_of_front (early_conditions f a) (later_conditions f a) r h in
    record {
      holds = first_stands (conditions f a) r all;
      least = λ q at. first_least 0 (conditions f a) r q (table_rises f a) all at;
      repeat = λ _. below 10 (early_conditions f a) r (search rules) (first_stands (early_conditions f a) r h);
    }
least-by f a r false is h = record {
  holds = first_stands (conditions f a) r h;
  least = λ q at. first_least 0 (conditions f a) r q (table_rises f a) h at;
  repeat = λ yes. absurd (false≢true (sym is ∙ yes));
}

pub refuses_least : LeastRefusal
refuses_least f a r h = least-by f a r (is_repeat f a) refl h

none-by : (f : Facts) (a : Asked) (r : Refusal) (b : Bool)
    → first (cond b (early_conditions f a) (conditions f a)) ≡ None → Holds f a r → (b ≡ true) × (10 < number_of r)
none-by f a r false h at = absurd (first_none_stands (conditions f a) r h at)
none-by f a r true h at = grind (arith, rules, stands_apart, later_conditions, first_none_stands, above)

pub none_holds : NoRefusal
none_holds f a r h at = none-by f a r (is_repeat f a) h at
