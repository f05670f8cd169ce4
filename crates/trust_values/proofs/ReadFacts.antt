-- A number is found by its text.
use Rattle.trust_values.proofs.Names.{◌≡◌, ◌≢◌, ℕ, zero, suc, ◌≤◌, ◌<◌, List, Option, Some, None, true, ◌&&◌, nat_le, refl, sym, ◌∙◌, arith, IfSome, IfNone, bytes_eq, cases_Bool, cases_lt, IsAmount, IsAmountOrZero, IsMatterNo, amount_of, amount_or_zero_of, amount_text, matter_of, matter_text, number_in, or_here, fixed-injective, length-fixed, six-digits, printed-six}
use Rattle.std.proofs.lemmas.Slice.Eq.{bytes_eq-Decides}
use Rattle.trust_values.proofs.AmountFacts.{sum_injective}

-- the test at one number
here-true : (low k : ℕ) (t bs : List ℕ) → low ≤ k → t ≡ bs → (nat_le low k && bytes_eq t bs) ≡ true
here-true low k t bs le e = let same = (bytes_eq-Decides t bs).1 e in grind arith

-- and none is found by another text
pub number-none : (low k : ℕ) (text : ℕ → List ℕ) (bs : List ℕ) → ((m : ℕ) → low ≤ m → m < k → text m ≢ bs) → number_in low k text bs ≡ None
unfolding number_in
number-none low zero text bs never = refl
number-none low (suc k) text bs never = grind (arith, cases_Bool, bytes_eq-Decides, (number-none low k text bs))

-- a number that is alone with its text is found by it
pub number-found : (low k n : ℕ) (text : ℕ → List ℕ) (bs : List ℕ) → low ≤ n → n < k → text n ≡ bs
    → ((m : ℕ) → low ≤ m → m < k → text m ≡ bs → m ≡ n) → number_in low k text bs ≡ Some n
unfolding number_in
number-found low zero n text bs le lt e only = absurd (omega arith)
number-found low (suc k) n text bs le lt e only =
    grind (arith, number-none, here-true, (number-found low k n text bs), (cases_lt n k))

-- what is found has the text
pub number-text : (low k : ℕ) (text : ℕ → List ℕ) (bs : List ℕ) (n : ℕ) → number_in low k text bs ≡ Some n → text n ≡ bs
unfolding number_in
number-text low zero text bs n e = absurd (cc)
number-text low (suc k) text bs n e = grind (arith, bytes_eq-Decides, or_here, (number-text low k text bs n))

-- where the one number that could have the text is out of range, no number in range has it
pub none_in_range : (r : Option ℕ) (k : ℕ) (text : ℕ → List ℕ) (bs : List ℕ) (P : ℕ → Type 0) → IfNone r (P k → ⊥)
    → ((n : ℕ) → P n → text n ≡ bs → n ≡ k) → IfNone r ((n : ℕ) → P n → text n ≢ bs)
none_in_range r k text bs P never only = grind (arith)

pub amount_of_is : (r : Option ℕ) (bs : List ℕ) → IfSome r IsAmount → IfSome r (λ n. amount_text n ≡ bs) → IfNone r ((n : ℕ) → IsAmount n → amount_text n ≢ bs) → r ≡ amount_of bs
amount_of_is (Some n) bs range e none = sym (number-found 1 100000000000 n amount_text bs range.0 (omega arith) e
    (λ m a b f. sum_injective m n (omega arith) (omega arith) (f ∙ sym e)))
amount_of_is None bs range e none = sym (number-none 1 100000000000 amount_text bs (λ m a b. none m (a, omega arith)))

pub amount_or_zero_of_is : (r : Option ℕ) (bs : List ℕ) → IfSome r IsAmountOrZero → IfSome r (λ n. amount_text n ≡ bs) → IfNone r ((n : ℕ) → IsAmountOrZero n → amount_text n ≢ bs) → r ≡ amount_or_zero_of bs
amount_or_zero_of_is (Some n) bs range e none = sym (number-found 0 100000000000 n amount_text bs (omega arith) (omega arith) e
    (λ m a b f. sum_injective m n (omega arith) (omega arith) (f ∙ sym e)))
amount_or_zero_of_is None bs range e none = sym (number-none 0 100000000000 amount_text bs (λ m a b. none m (omega arith)))

pub matter_of-is : (r : Option ℕ) (bs : List ℕ) → IfSome r IsMatterNo → IfSome r (λ n. matter_text n ≡ bs) → IfNone r ((n : ℕ) → IsMatterNo n → matter_text n ≢ bs) → r ≡ matter_of bs
matter_of-is (Some n) bs range e none = sym (number-found 1 1000000 n matter_text bs range.0 (omega arith) e
    (λ m a b f. fixed-injective 6 m n (omega arith) (omega arith) (f ∙ sym e)))
matter_of-is None bs range e none = sym (number-none 1 1000000 matter_text bs (λ m a b. none m (a, omega arith)))

-- what the code cites

pub ruleset digit_facts = (length-fixed, fixed-injective)

pub ruleset six_digit_facts = (six-digits, printed-six)
