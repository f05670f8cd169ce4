-- What sums come to, and that they fit 128 bits.
use Rattle.firm_figures.proofs.Names.{◌≡◌, ℕ, ◌*◌, ◌≤◌, Bool, cond, List, [], ◌∷◌, length, ◌∙◌, arith, ℤ, pos, negsuc, ◌+ℤ◌, ◌-ℤ◌, ◌≤ℤ◌, fold, AllByRecursion, int_wrap, int_wrap-add_left, w128, FitsSigned, ap, ints, fits_signed_from_abs, IsAmount, IsBankAmount, sum_of, added}

-- at most n cents in or out
pub record IsWithin (n : ℕ) (z : ℤ) : Type 0 where
  pub low : pos 0 ≤ℤ (z +ℤ pos n)
  pub high : z ≤ℤ pos n

-- the greatest amount of a bank, rounded up
abbrev pub MOST : ℕ
MOST = 1_000_000_000_000_000_000

pub sum-within : {A : Type 0} (f : A → ℤ) (xs : List A) → AllByRecursion (λ x. IsWithin MOST (f x)) xs → IsWithin (length xs * MOST) (sum_of f xs)
sum-within f [] all = record { low = omega (arith, ints); high = omega (arith, ints) }
sum-within f (x ∷ xs) all = grind (arith, ints, (sum-within f xs all.1))

pub wider : (n m : ℕ) (z : ℤ) → n ≤ m → IsWithin n z → IsWithin m z
wider n m z le is = record { low = omega (arith, ints, is.low); high = omega (arith, ints, is.high) }

pub tested : (n : ℕ) (b : Bool) (z : ℤ) → IsWithin n z → IsWithin n (cond b z (pos 0))
tested n b z is = grind (arith, ints)

pub bank-within : (z : ℤ) → IsBankAmount z → IsWithin MOST z
bank-within z is = grind (arith, ints)

abbrev pub CENTS : ℕ
CENTS = 99_999_999_999

pub amount-within : (n : ℕ) → IsAmount n → IsWithin CENTS (pos n)
amount-within n is = record { low = omega (arith, ints); high = omega (arith, ints, is.1) }

pub out-within : (n : ℕ) → IsAmount n → IsWithin CENTS (pos 0 -ℤ pos n)
out-within n is = record { low = omega (arith, ints, is.1); high = omega (arith, ints) }

pub none-within : IsWithin CENTS (pos 0)
none-within = record { low = omega (arith, ints); high = omega (arith, ints) }

abbrev pub WHOLE : ℕ
WHOLE = 18_446_744_073_709_551_615_000_000_000_000_000_000

pub fits : (z : ℤ) → IsWithin 170_141_183_460_469_231_731_687_303_715_884_105_727 z → FitsSigned w128 z
fits z is = grind (arith, ints, fits_signed_from_abs, negsuc)

-- what is added up in 128 bits is the sum in 128 bits
pub added-from : {A : Type 0} (f : A → ℤ) (z : ℤ) (xs : List A) → fold (λ y x. added y (f x)) (int_wrap w128 z) xs ≡ int_wrap w128 (z +ℤ sum_of f xs)
unfolding added
added-from f z [] = ap (int_wrap w128) (let e : z ≡ z +ℤ pos 0 = omega (arith, ints) in e)
added-from f z (x ∷ xs) =
    ap (λ y. fold (λ y x. int_wrap w128 (y +ℤ f x)) y xs) (int_wrap-add_left w128 z (f x))
    ∙ (added-from f (z +ℤ f x) xs ∙ ap (int_wrap w128) (let e : (z +ℤ f x) +ℤ sum_of f xs ≡ z +ℤ (f x +ℤ sum_of f xs) = omega (arith, ints) in e))

pub narrow : (z : ℤ) → IsWithin WHOLE z → FitsSigned w128 z
narrow z is = fits z (wider WHOLE _ z (omega arith) is)
