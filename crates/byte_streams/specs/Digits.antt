-- Numbers written with a fixed count of digits.
use Rattle.std.specs.Prelude.{◌+◌, ◌/◌, ◌%◌, ℕ, zero, suc, List, [], ◌∷◌, ◌++◌}

-- the last k decimal digits of a number, with leading zeros
unfoldable pub fixed_digits : ℕ → ℕ → List ℕ
fixed_digits zero n = []
fixed_digits (suc k) n = fixed_digits k (n / 10) ++ ((48 + n % 10) ∷ [])
