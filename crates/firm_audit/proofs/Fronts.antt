-- A list that a loop goes along: what is said of the rest is so exactly if what is said of all is.
use Rattle.firm_audit.proofs.Names.{◌≡◌, ◌↔◌, ℕ, zero, suc, ◌+◌, ◌<◌, ◌≤◌, Bool, true, false, List, [], ◌∷◌, Some, None, map, length, drop, get_or, refl, sym, ap, ◌∙◌, subst, arith, filter, slice_get, drop_more, option_map, AllByRecursion, Event, Movement, event_of}
use Rattle.std.proofs.Math.ListN.{drop_of_length-le}

-- the next element is looked at
pub next : {A : Type 0} (P : List A → Type 0) (Q : Type 0) (xs : List A) (i : ℕ) (x : A) → i < length xs → x ≡ get_or xs i x → (P (drop i xs) ↔ Q) → (P (x ∷ drop (i + 1) xs) ↔ Q)
next {A} P Q xs i x lt is both =
    subst (λ (ys : List A). P ys ↔ Q) (drop_more xs i x lt ∙ ap (λ y. y ∷ drop (i + 1) xs) (sym is)) both

-- no element is left
pub ended : {A : Type 0} (P : List A → Type 0) (Q : Type 0) (xs : List A) (i : ℕ) → length xs ≤ i → (P (drop i xs) ↔ Q) → (P [] ↔ Q)
ended {A} P Q xs i long both = subst (λ (ys : List A). P ys ↔ Q) (drop_of_length-le xs long) both

-- What holds of each.

-- the next element, and the rest
pub all-first : {A : Type 0} (P : A → Type 0) (xs : List A) (i : ℕ) (x : A) → i < length xs → x ≡ get_or xs i x → AllByRecursion P (drop i xs) → P x × AllByRecursion P (drop (i + 1) xs)
all-first P xs i x lt is all = subst (AllByRecursion P) (drop_more xs i x lt ∙ ap (λ y. y ∷ drop (i + 1) xs) (sym is)) all

pub all-next : {A : Type 0} (P : A → Type 0) (xs : List A) (i : ℕ) (x : A) → i < length xs → x ≡ get_or xs i x → P x → AllByRecursion P (drop (i + 1) xs) → AllByRecursion P (drop i xs)
all-next P xs i x lt is one rest =
    subst (AllByRecursion P) (sym (drop_more xs i x lt ∙ ap (λ y. y ∷ drop (i + 1) xs) (sym is))) (one, rest)

-- An element by its place.

pub rest-at : {A : Type 0} (xs : List A) (i : ℕ) (x : A) → slice_get xs i ≡ Some x → drop i xs ≡ x ∷ drop (suc i) xs
rest-at [] i x at = absurd (cc)
rest-at (y ∷ xs) zero x at = let same : y ≡ x = cc in ap (λ z. z ∷ xs) same
rest-at (y ∷ xs) (suc i) x at = rest-at xs i x at

pub at-rest : {A : Type 0} (xs : List A) (i : ℕ) (x : A) (ys : List A) → drop i xs ≡ x ∷ ys → slice_get xs i ≡ Some x
at-rest [] zero x ys is = absurd (cc)
at-rest [] (suc i) x ys is = absurd (cc)
at-rest (y ∷ xs) zero x ys is = let same : y ≡ x = cc in ap Some same
at-rest (y ∷ xs) (suc i) x ys is = at-rest xs i x ys is

pub none-left : {A B : Type 0} (f : A → B) (xs : List A) (i : ℕ) → option_map f (slice_get xs i) ≡ None → drop i xs ≡ []
none-left f [] zero none = refl
none-left f [] (suc i) none = refl
none-left f (x ∷ xs) zero none = absurd (cc)
none-left f (x ∷ xs) (suc i) none = none-left f xs i none

pub some-left : {A B : Type 0} (f : A → B) (xs : List A) (i : ℕ) (y : B) → option_map f (slice_get xs i) ≡ Some y → [] ≡ drop i xs → ⊥
some-left f [] zero y some none = cc
some-left f [] (suc i) y some none = cc
some-left f (x ∷ xs) zero y some none = cc
some-left f (x ∷ xs) (suc i) y some none = some-left f xs i y some none

pub past-end : {A : Type 0} (xs : List A) (i : ℕ) → [] ≡ drop i xs → length xs ≤ i
past-end [] i none = omega arith
past-end (x ∷ xs) zero none = absurd (cc)
past-end (x ∷ xs) (suc i) none = omega (arith, past-end xs i none)

pub at-end : {A : Type 0} (xs : List A) (i : ℕ) → length xs ≤ i → [] ≡ drop i xs
at-end xs i long = sym (drop_of_length-le xs long)

-- what holds of all elements holds of the one at a place
pub all-at : {A : Type 0} (P : A → Type 0) (xs : List A) (i : ℕ) (x : A) → slice_get xs i ≡ Some x → AllByRecursion P xs → P x
all-at P [] i x at all = absurd (cc)
all-at P (y ∷ xs) zero x at all = let same : y ≡ x = cc in subst P same all.0
all-at P (y ∷ xs) (suc i) x at all = all-at P xs i x at all.1

-- The movements that pass a test, beside a list of events.

abbrev pub passed : (Movement → Bool) → List Movement → List Event
passed p vs = map event_of (filter p vs)

pub fails-first : (p : Movement → Bool) (v : Movement) (vs : List Movement) → p v ≡ false → passed p (v ∷ vs) ≡ passed p vs
fails-first p v vs fails = rw fails

pub passes-first : (p : Movement → Bool) (v : Movement) (vs : List Movement) → p v ≡ true → passed p (v ∷ vs) ≡ event_of v ∷ passed p vs
passes-first p v vs passes = rw passes

-- one that passes is among them
pub some-passed : (p : Movement → Bool) (vs : List Movement) (i : ℕ) (v : Movement) → slice_get vs i ≡ Some v → p v ≡ true → passed p vs ≡ [] → ⊥
some-passed p [] i v at passes none = cc
some-passed p (w ∷ vs) zero v at passes none =
    let same : w ≡ v = cc in
    let first = passes-first p w vs (ap p same ∙ passes) in
    cc
some-passed p (w ∷ vs) (suc i) v at passes none = cases (p w) refl (some-passed p vs i v at passes)
  where
    cases : (b : Bool) → p w ≡ b → (passed p vs ≡ [] → ⊥) → ⊥
    cases true is more = let first = passes-first p w vs is in cc
    cases false is more = more (sym (fails-first p w vs is) ∙ none)

-- the next movement, of which the events from a place on are told
module _ (p : Movement → Bool) (v : Movement) (vs : List Movement) (told : List Event) (place : ℕ) (Q : Type 0) (along : (passed p (v ∷ vs) ≡ drop place told) ↔ Q) where
  -- it passes, and is the event at this place
  pub goes-on : p v ≡ true → slice_get told place ≡ Some (event_of v) → (passed p vs ≡ drop (suc place) told) ↔ Q
  goes-on passes at = (
    λ h. along.0 (first ∙ (ap (λ es. event_of v ∷ es) h ∙ sym here)),
    λ q. tails (sym first ∙ (along.1 q ∙ here)),
  )
    where
      first : passed p (v ∷ vs) ≡ event_of v ∷ passed p vs
      first = passes-first p v vs passes

      here : drop place told ≡ event_of v ∷ drop (suc place) told
      here = rest-at told place (event_of v) at

      tails : event_of v ∷ passed p vs ≡ event_of v ∷ drop (suc place) told → passed p vs ≡ drop (suc place) told
      tails same = cc

  -- it does not pass
  pub left-out : p v ≡ false → (passed p vs ≡ drop place told) ↔ Q
  left-out fails = (
    λ h. along.0 (fails-first p v vs fails ∙ h),
    λ q. sym (fails-first p v vs fails) ∙ along.1 q,
  )

  -- it passes, and is not that event
  pub differs : p v ≡ true → (slice_get told place ≡ Some (event_of v) → ⊥) → Q → ⊥
  differs passes apart q =
      apart (at-rest told place (event_of v) (passed p vs) (sym (along.1 q) ∙ passes-first p v vs passes))
