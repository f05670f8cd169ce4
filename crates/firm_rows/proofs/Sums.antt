-- Sums of shares.
use Rattle.firm_rows.proofs.Names.{◌≡◌, ℕ, zero, suc, ◌≤◌, Bool, true, false, cond, List, [], ◌∷◌, ◌++◌, max, refl, arith, nat_lt, ◌==◌, filter, flat_map, ints, nat_tests, sum_of}
use Rattle.std.proofs.Common.{ℤ, pos, ◌+ℤ◌, ◌≤ℤ◌}

pub sum-append : {A : Type 0} (f : A → ℤ) (xs ys : List A) → sum_of f (xs ++ ys) ≡ sum_of f xs +ℤ sum_of f ys
sum-append f [] ys = omega (arith, ints)
sum-append f (x ∷ xs) ys = omega (arith, ints, sum-append f xs ys)

-- The elements by a number that each has.
module _ {A : Type 0} (key : A → ℕ) (f : A → ℤ) where
  -- the share of an element of this number
  abbrev pub at : ℕ → A → ℤ
  at n x = cond (key x == n) (f x) (pos 0)

  -- the share of an element of a lesser number
  abbrev pub below : ℕ → A → ℤ
  below n x = cond (nat_lt (key x) n) (f x) (pos 0)

  -- a number above all
  abbrev pub above : List A → ℕ
  above [] = 0
  above (x ∷ xs) = max (suc (key x)) (above xs)

  pub below-zero : (xs : List A) → sum_of (below 0) xs ≡ pos 0
  below-zero [] = refl
  below-zero (x ∷ xs) = let no : nat_lt (key x) 0 ≡ false =
      grind (arith, nat_tests) in rw no (omega (arith, ints, below-zero xs))

  below-one : (n : ℕ) (x : A) → below (suc n) x ≡ below n x +ℤ at n x
  below-one n x = grind (arith, ints, nat_tests)

  pub below-suc : (n : ℕ) (xs : List A) → sum_of (below (suc n)) xs ≡ sum_of (below n) xs +ℤ sum_of (at n) xs
  below-suc n [] = omega (arith, ints)
  below-suc n (x ∷ xs) = omega (arith, ints, below-suc n xs, below-one n x)

  pub below-all : (n : ℕ) (xs : List A) → above xs ≤ n → sum_of (below n) xs ≡ sum_of f xs
  below-all n [] h = refl
  below-all n (x ∷ xs) h = let yes : nat_lt (key x) n ≡ true =
      grind (arith, nat_tests) in let more : above xs ≤ n = omega arith in rw yes (omega (arith, ints, below-all n xs more))

-- sums that are at least zero at each number are at least zero
module _ {A : Type 0} (key : A → ℕ) (f : A → ℤ) (xs : List A) (h : (n : ℕ) → pos 0 ≤ℤ sum_of (at key f n) xs) where
  below-least : (n : ℕ) → pos 0 ≤ℤ sum_of (below key f n) xs
  below-least zero = omega (arith, ints, below-zero key f xs)
  below-least (suc n) = omega (arith, ints, below-suc key f n xs, below-least n, h n)

  pub sum-least : pos 0 ≤ℤ sum_of f xs
  sum-least = let n = above key f xs in omega (arith, ints, below-all key f n xs (omega arith), below-least n)

-- sums that agree at each number agree
module _ {A B : Type 0} (key : A → ℕ) (f : A → ℤ) (xs : List A) (with_key : B → ℕ) (g : B → ℤ) (ys : List B) (h : (n : ℕ) → sum_of (at key f n) xs ≡ sum_of (at with_key g n) ys) where
  below-agree : (n : ℕ) → sum_of (below key f n) xs ≡ sum_of (below with_key g n) ys
  below-agree zero = omega (arith, ints, below-zero key f xs, below-zero with_key g ys)
  below-agree (suc n) = omega (arith, ints, below-suc key f n xs, below-suc with_key g n ys, below-agree n, h n)

  pub sum-agree : sum_of f xs ≡ sum_of g ys
  sum-agree =
      let n = max (above key f xs) (above with_key g ys) in
      let low : above key f xs ≤ n = omega arith in
      let high : above with_key g ys ≤ n = omega arith in
      omega (arith, ints, below-all key f n xs low, below-all with_key g n ys high, below-agree n)

-- shares that agree at each element add up to the same
pub sum-same : {A : Type 0} (f g : A → ℤ) (xs : List A) → ((x : A) → f x ≡ g x) → sum_of f xs ≡ sum_of g xs
sum-same f g [] same = refl
sum-same f g (x ∷ xs) same = omega (arith, ints, sum-same f g xs same, same x)

-- a sum over what passes a test is the sum of what each adds that passes
pub sum-filter : {A : Type 0} (p : A → Bool) (f : A → ℤ) (xs : List A) → sum_of f (filter p xs) ≡ sum_of (λ x. cond (p x) (f x) (pos 0)) xs
sum-filter p f [] = refl
sum-filter p f (x ∷ xs) = grind (arith, ints, sum-filter p f xs)

-- a sum over lists joined end to end
pub sum-flat : {A B : Type 0} (g : A → List B) (f : B → ℤ) (xs : List A) → sum_of f (flat_map g xs) ≡ sum_of (λ x. sum_of f (g x)) xs
sum-flat g f [] = refl
sum-flat g f (x ∷ xs) = omega (arith, ints, sum-append f (g x) (flat_map g xs), sum-flat g f xs)
