-- What is among the elements of lists that are made of others.
use Rattle.statement_lines.proofs.Names.{◌≡◌, ◌∙◌, sym, ap, subst, zero, suc, Bool, true, List, [], ◌∷◌, map, Some, refl, inl, inr, arith, cases_Bool, Contains, filter, find, flat_map, Contains-append_cases, Contains-append_left, Contains-append_right}
use Rattle.std.proofs.lemmas.List.Elements.{All-contains, All-contains_itself, All-filter, filter_passes}

pub later : {A : Type 0} (x y : A) (xs : List A) → Contains xs y → Contains (x ∷ xs) y
later x y xs (k, lt, is) = (suc k, omega arith, is)

pub filter_has : {A : Type 0} (p : A → Bool) (xs : List A) (y : A) → p y ≡ true → Contains xs y
    → Contains (filter p xs) y
filter_has p [] y hit (k, lt, is) = absurd (omega arith)
filter_has p (x ∷ xs) y hit (zero, lt, is) = grind (arith)
filter_has p (x ∷ xs) y hit (suc k, lt, is) =
    let more = filter_has p xs y hit (k, omega arith, is) in
    elim (cases_Bool (p x)) [
      | inl t ↦ rw t (later x y (filter p xs) more)
      | inr f ↦ rw f more
    ]

pub map_has : {A B : Type 0} (f : A → B) (xs : List A) (y : A) → Contains xs y → Contains (map f xs) (f y)
map_has f [] y (k, lt, is) = absurd (omega arith)
map_has f (x ∷ xs) y (zero, lt, is) = (zero, omega arith, ap f is)
map_has f (x ∷ xs) y (suc k, lt, is) = later (f x) (f y) (map f xs) (map_has f xs y (k, omega arith, is))

pub flat_map_has : {A B : Type 0} (f : A → List B) (xs : List A) (y : A) (z : B) → Contains xs y → Contains (f y) z
    → Contains (flat_map f xs) z
flat_map_has f [] y z (k, lt, is) there = absurd (omega arith)
flat_map_has {A} f (x ∷ xs) y z (zero, lt, is) there =
    let T = λ (v : A). Contains (f v) z in
    Contains-append_left (f x) (flat_map f xs) z (subst T (sym is) there)
flat_map_has f (x ∷ xs) y z (suc k, lt, is) there =
    Contains-append_right (f x) (flat_map f xs) z (flat_map_has f xs y z (k, omega arith, is) there)

-- what is among the lists of elements is in that of one
pub flat_map_from : {A B : Type 0} (f : A → List B) (xs : List A) (z : B) → Contains (flat_map f xs) z
    → (y : A) × Contains xs y × Contains (f y) z
flat_map_from f [] z (k, lt, is) = absurd (omega arith)
flat_map_from f (x ∷ xs) z there =
    elim (Contains-append_cases (f x) (flat_map f xs) z there) [
      | inl here ↦ (x, (zero, omega arith, refl), here)
      | inr more ↦
          let found = flat_map_from f xs z more in (found.0, later x found.0 xs found.1, found.2)
    ]

pub map_from : {A B : Type 0} (f : A → B) (xs : List A) (z : B) → Contains (map f xs) z
    → (y : A) × Contains xs y × (f y ≡ z)
map_from f [] z (k, lt, is) = absurd (omega arith)
map_from f (x ∷ xs) z (zero, lt, is) = (x, (zero, omega arith, refl), is)
map_from f (x ∷ xs) z (suc k, lt, is) = grind (arith, later, (map_from f xs z))

pub filter_from : {A : Type 0} (p : A → Bool) (xs : List A) (y : A) → Contains (filter p xs) y
    → (p y ≡ true) × Contains xs y
filter_from p xs y there = (
  All-contains (λ x. p x ≡ true) (filter p xs) y (filter_passes p xs) there,
  All-contains (Contains xs) (filter p xs) y (All-filter p (Contains xs) xs (All-contains_itself xs)) there,
)

-- where one is there that passes, one is found
pub find_has : {A : Type 0} (p : A → Bool) (xs : List A) (y : A) → Contains xs y → p y ≡ true
    → (z : A) × (find p xs ≡ Some z)
find_has p [] y (k, lt, is) hit = absurd (omega arith)
find_has p (x ∷ xs) y (zero, lt, is) hit = let first : p x ≡ true = ap p is ∙ hit in (x, rw first refl)
find_has p (x ∷ xs) y (suc k, lt, is) hit = elim (cases_Bool (p x)) [
  | inl t ↦ (x, rw t refl)
  | inr f ↦ rw f (find_has p xs y (k, omega arith, is) hit)
]
