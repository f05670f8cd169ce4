-- Amounts with a sign.
use Rattle.trust_values.proofs.Names.{◌≡◌, ◌≢◌, ℕ, zero, suc, ℤ, pos, negsuc, ◌≤◌, ◌<◌, ◌^◌, List, ◌∷◌, get_or, Option, Some, None, IfSome, IfNone, refl, sym, ◌∙◌, arith, decimal, decimal_is_IsNumeral, digit_at, IsBankAmount, amount_text, bank_amount_of, end_text, negative_text, signed_text}
use Rattle.std.proofs.Math.ListN.{get_or-append}
use Rattle.trust_values.specs.declared.limits.TheConstants.{MAX_BANK_AMOUNT}
use Rattle.trust_values.proofs.AmountFacts.{sum_injective}
use Rattle.trust_values.proofs.ReadFacts.{number-found, number-none}

-- a text without a sign begins with a digit
pub unsigned-first : (n : ℕ) → n < 2 ^ 64 → 48 ≤ get_or (amount_text n) 0 0
unsigned-first n small = grind (arith, decimal_is_IsNumeral, digit_at, decimal, get_or-append, end_text)

pub unsigned-no_minus : (n : ℕ) (t : List ℕ) → n < 2 ^ 64 → amount_text n ≡ 45 ∷ t → ⊥
unsigned-no_minus n t small e = grind (arith, (unsigned-first n small))

-- the same where the text is not behind a minus sign by its form but by an equation
pub if_negative_none : (r : Option ℤ) (bs size : List ℕ) → bs ≡ 45 ∷ size → IfNone r ((n : ℕ) → 1 ≤ n → n ≤ MAX_BANK_AMOUNT → amount_text n ≢ size) → IfNone r ((z : ℤ) → IsBankAmount z → signed_text z ≢ bs)
if_negative_none r bs size is none = grind (arith, unsigned-no_minus)

-- where the one size that could have the text is zero, no size above zero has it
pub if_zero_none : (r : Option ℤ) (k : ℕ) (size : List ℕ) → k < 2 ^ 64 → amount_text k ≡ size → IfNone r (k ≡ 0) → IfNone r ((n : ℕ) → 1 ≤ n → n ≤ MAX_BANK_AMOUNT → amount_text n ≢ size)
if_zero_none r k size small is none = grind (arith, sum_injective)

-- no size below zero has the text
negative-sizes : (bs : List ℕ) → ((z : ℤ) → IsBankAmount z → signed_text z ≢ bs) → (m : ℕ) → 1 ≤ m → m < 1000000000000000000 → negative_text m ≢ bs
negative-sizes bs none zero some few e = absurd (omega arith)
negative-sizes bs none (suc k) some few e = none (negsuc k) (omega arith) e

pub bank_amount_of_is : (r : Option ℤ) (bs : List ℕ) → IfSome r IsBankAmount → IfSome r (λ z. signed_text z ≡ bs) → IfNone r ((z : ℤ) → IsBankAmount z → signed_text z ≢ bs) → r ≡ bank_amount_of bs
bank_amount_of_is (Some (pos n)) bs range e none =
    grind (arith, (number-found 0 1000000000000000000 n amount_text bs), sum_injective)
bank_amount_of_is (Some (negsuc n)) bs range e none =
    let above = number-none 0 1000000000000000000 amount_text bs (λ m a b f. unsigned-no_minus m (amount_text (suc n)) (omega arith) (f ∙ sym e)) in
    let found = number-found 1 1000000000000000000 (suc n) negative_text bs (omega arith) (omega arith) e (λ m a b f. sum_injective m (suc n) (omega arith) (omega arith) (let h : negative_text m ≡ negative_text (suc n) = f ∙ sym e in cc)) in
    rw (above, found) refl
bank_amount_of_is None bs range e none =
    let above = number-none 0 1000000000000000000 amount_text bs (λ m a b. none (pos m) (omega arith)) in
    let below = number-none 1 1000000000000000000 negative_text bs (negative-sizes bs none) in
    rw (above, below) refl
