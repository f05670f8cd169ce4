-- Lists of which each element stands before the next.
use Rattle.firm_audit.proofs.Names.{◌≡◌, ℕ, suc, ◌+◌, ◌-◌, ◌<◌, ◌≤◌, List, [], ◌∷◌, length, get_or, arith, AllByRecursion, get_or_default, cases_lt, Follow, ints, nat_tests}

-- of the first elements of the list each stands before the next
abbrev pub AreBefore : {A : Type 0} → (A → A → Type 0) → ℕ → List A → Type 0
AreBefore {A} R n xs = (j : ℕ) (d : A) → suc j < n → suc j < length xs → R (get_or xs j d) (get_or xs (suc j) d)

-- each stands before all behind it
abbrev pub AreAllBefore : {A : Type 0} → (A → A → Type 0) → List A → Type 0
AreAllBefore R [] = Unit {0}
AreAllBefore R (x ∷ xs) = AllByRecursion (R x) xs × AreAllBefore R xs

module _ {A : Type 0} (R : A → A → Type 0) where
  -- the element that was looked at last
  pub before-more : (xs : List A) (n : ℕ) (x y : A) → AreBefore R n xs → 1 ≤ n → n < length xs → x ≡ get_or xs (n - 1) x → y ≡ get_or xs n y → R x y → AreBefore R (n + 1) xs
  before-more xs n x y more one within is_x is_y here j d few in_range =
      grind (arith, ints, nat_tests, cases_lt, get_or, get_or_default)

  module _ (trans : (x y z : A) → R x y → R y z → R x z) where
    -- what stands before the first stands before all
    further : (x y : A) (xs : List A) → R x y → AllByRecursion (R y) xs → AllByRecursion (R x) xs
    further x y [] here all = tt
    further x y (z ∷ xs) here all = (trans x y z here all.0, further x y xs here all.1)

    pub all-before : (xs : List A) → Follow R xs → AreAllBefore R xs
    all-before [] is = tt
    all-before (x ∷ []) is = (tt, tt)
    all-before (x ∷ y ∷ xs) is =
        let rest = all-before (y ∷ xs) (λ j d within. is (suc j) d (omega arith)) in
        let first = is 0 x (omega arith) in
        ((first, further x y xs first rest.0), rest)
