-- Numbers of entries and their four digits.
use Rattle.trust_values.proofs.Names.{◌≡◌, ◌≢◌, ℕ, ◌+◌, ◌/◌, ◌%◌, List, [], ◌∷◌, ◌++◌, Option, Some, None, IfSome, IfNone, sym, ◌∙◌, arith, decimal, decimal_digit, IsEntryNo, fixed_digits, entry_of, entry_text, fixed-injective}
use Rattle.trust_values.proofs.ReadFacts.{number-found, number-none}

-- the four digits one by one
pub four_digits : (n : ℕ) → fixed_digits 4 n ≡ (48 + n / 1000 % 10) ∷ (48 + n / 100 % 10) ∷ (48 + n / 10 % 10) ∷ (48 + n % 10) ∷ []
unfolding fixed_digits
four_digits n = grind (arith)

-- the four digits as they are printed
pub printed_four : (n : ℕ) → decimal (n / 1000 % 10) ++ (decimal (n / 100 % 10) ++ (decimal (n / 10 % 10) ++ decimal (n % 10))) ≡ fixed_digits 4 n
printed_four n = grind (arith, decimal_digit, four_digits)

pub entry_of-is : (r : Option ℕ) (bs : List ℕ) → IfSome r IsEntryNo → IfSome r (λ n. entry_text n ≡ bs) → IfNone r ((n : ℕ) → IsEntryNo n → entry_text n ≢ bs) → r ≡ entry_of bs
entry_of-is (Some n) bs range e none = sym (number-found 1 10000 n entry_text bs range.0 (omega arith) e
    (λ m a b f. fixed-injective 4 m n (omega arith) (omega arith) (f ∙ sym e)))
entry_of-is None bs range e none = sym (number-none 1 10000 entry_text bs (λ m a b. none m (a, omega arith)))
