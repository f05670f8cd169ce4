-- The parts of an amount's text.
use Rattle.trust_values.proofs.Names.{◌≡◌, ℕ, ℤ, pos, true, false, ◌≤◌, ◌<◌, ◌+◌, ◌*◌, ◌-◌, ◌/◌, ◌^◌, ◌%◌, List, ◌∷◌, ◌++◌, length, take, drop, arith, length-append, decimal, unsigned_abs, decimal_injective, decimal_nonempty, decimal_digit, amount_text, end_text, signed_text}
use lib.Signed.{lt_z}
use Rattle.std.proofs.Math.Seq.{take-append_seam, drop-append_seam}

pub record HasParts (bs : List ℕ) (n : ℕ) : Type 0 where
  pub long : 4 ≤ length bs
  pub whole : decimal (n / 100) ≡ take (length bs - 3) bs
  pub end : end_text (n % 100) ≡ drop (length bs - 3) bs

split-at : (a b : List ℕ) (k : ℕ) → k ≡ length a → (take k (a ++ b) ≡ a) × (drop k (a ++ b) ≡ b)
split-at a b k e = rw e (take-append_seam a b, drop-append_seam a b)

pub amount_parts : (n : ℕ) (bs : List ℕ) → n < 2 ^ 64 → amount_text n ≡ bs → HasParts bs n
amount_parts n bs small e =
    grind (arith, length-append, decimal_nonempty, (split-at (decimal (n / 100)) (end_text (n % 100)) (length bs - 3)))

-- the cents from the parts of their text
pub sum-of-parts : (n d : ℕ) (e : ℕ) (bs : List ℕ) → n < 2 ^ 64 → amount_text n ≡ bs → decimal d ≡ take (length bs - 3) bs → end_text e ≡ drop (length bs - 3) bs → d < 2 ^ 64 → e < 100 → n ≡ d * 100 + e
sum-of-parts n d e bs small t whole end dl el = grind (arith, amount_parts, decimal_injective)

-- no two sums have one text
pub sum_injective : (m n : ℕ) → m < 2 ^ 64 → n < 2 ^ 64 → amount_text m ≡ amount_text n → m ≡ n
sum_injective m n a b e =
    grind (arith, (amount_parts n (amount_text n) b), (sum-of-parts m (n / 100) (n % 100) (amount_text n) a e))

-- the text as it is printed, in three numbers
pub printed_text : (n : ℕ) → decimal (n / 100) ++ 46 ∷ (decimal (n / 10 % 10) ++ decimal (n % 10)) ≡ amount_text n
printed_text n = grind (arith, decimal_digit)

-- the sign of a sum that is printed from its magnitude
pub below_zero_text : (z : ℤ) → lt_z z (pos 0) ≡ true → 45 ∷ amount_text (unsigned_abs z) ≡ signed_text z
below_zero_text z e = grind (arith)

pub not_below_zero_text : (z : ℤ) → lt_z z (pos 0) ≡ false → amount_text (unsigned_abs z) ≡ signed_text z
not_below_zero_text z e = grind (arith)

-- what the code cites

pub ruleset dollar_facts = (printed_text, below_zero_text, not_below_zero_text)
