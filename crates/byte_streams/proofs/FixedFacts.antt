-- Numbers of a fixed count of digits.
use Rattle.byte_streams.proofs.Names.{◌≡◌, ℕ, zero, suc, ◌≤◌, ◌<◌, ◌+◌, ◌*◌, ◌-◌, ◌/◌, ◌%◌, ◌^◌, List, [], ◌∷◌, ◌++◌, length, take, get_or, refl, sym, ap, ◌∙◌, arith, length-append, inl, inr, ◌⊎◌, add-zero, add-suc, get_or-append_seam, take-append_seam, take-suc, pow-suc, cases_lt, fixed_digits, ints, nat_tests}
use Rattle.std.proofs.Math.ListN.{get_or-append}
use Rattle.std.specs.Fmt.{decimal}
use Rattle.std.proofs.lemmas.Fmt.{decimal_digit}

pub length-fixed : (k n : ℕ) → length (fixed_digits k n) ≡ k
unfolding fixed_digits
length-fixed zero n = refl
length-fixed (suc k) n = rw (length-append (fixed_digits k (n / 10)) ((48 + n % 10) ∷ []), length-fixed k (n / 10)) (omega arith)

lt_or_eq : (a b : ℕ) → a < suc b → (a < b) ⊎ (a ≡ b)
lt_or_eq a b lt = elim (cases_lt a b) [ inl low ↦ inl low | inr high ↦ inr (omega arith) ]

at_seam : (xs : List ℕ) (x k : ℕ) → length xs ≡ k → get_or (xs ++ x ∷ []) k 0 ≡ x
at_seam xs x k e = rw (← e) (get_or-append_seam xs x [] 0)

-- each byte is a digit
pub fixed-digit : (k n i : ℕ) → i < k → (48 ≤ get_or (fixed_digits k n) i 0) × (get_or (fixed_digits k n) i 0 ≤ 57)
unfolding fixed_digits
fixed-digit zero n i lt = absurd (omega arith)
fixed-digit (suc k) n i lt = by (λ (low : i < k). fixed-digit k (n / 10) i low)
  where
    front : List ℕ
    front = fixed_digits k (n / 10)

    size : length (fixed_digits k (n / 10)) ≡ k
    size = length-fixed k (n / 10)

    by : (i < k → (48 ≤ get_or (fixed_digits k (n / 10)) i 0) × (get_or (fixed_digits k (n / 10)) i 0 ≤ 57))
        → (48 ≤ get_or (fixed_digits k (n / 10) ++ (48 + n % 10) ∷ []) i 0) × (get_or (fixed_digits k (n / 10) ++ (48 + n % 10) ∷ []) i 0 ≤ 57)
    by more = elim (lt_or_eq i k (omega arith)) [
      | inl low ↦ rw (get_or-append (fixed_digits k (n / 10)) ((48 + n % 10) ∷ []) 0 i (rw (length-fixed k (n / 10)) low)) (more low)
      | inr same ↦ rw (same, at_seam (fixed_digits k (n / 10)) (48 + n % 10) k (length-fixed k (n / 10))) (omega arith, omega arith)
    ]

-- one more digit
pub fixed-step : (k v d : ℕ) → d < 10 → fixed_digits (suc k) (v * 10 + d) ≡ fixed_digits k v ++ (48 + d) ∷ []
unfolding fixed_digits
fixed-step k v d lt =
    let front : (v * 10 + d) / 10 ≡ v = omega arith in
    grind (arith, ints, nat_tests, front)

-- a number has one text of each length that it fits
pub fixed-injective : (k m n : ℕ) → m < 10 ^ k → n < 10 ^ k → fixed_digits k m ≡ fixed_digits k n → m ≡ n
unfolding fixed_digits
fixed-injective zero m n a b e = omega arith
fixed-injective (suc k) m n a b e =
    let x = fixed_digits k (m / 10) in
    let y = fixed_digits k (n / 10) in
    let same_size : length x ≡ length y = length-fixed k (m / 10) ∙ sym (length-fixed k (n / 10)) in
    let fronts : x ≡ y = sym (take-append_seam x ((48 + m % 10) ∷ [])) ∙ ap (λ (t : List ℕ). take (length x) t) e ∙ rw same_size (take-append_seam y ((48 + n % 10) ∷ [])) in
    let lasts : 48 + m % 10 ≡ 48 + n % 10 = sym (get_or-append_seam x (48 + m % 10) [] 0) ∙ ap (λ (t : List ℕ). get_or t (length x) 0) e ∙ rw same_size (get_or-append_seam y (48 + n % 10) [] 0) in
    let power = pow-suc 10 k in
    grind (arith, ints, nat_tests, (fixed-injective k (m / 10) (n / 10) (omega arith) (omega arith) fronts))

-- a byte that is no digit stands in no such text
pub not-fixed : (text : List ℕ) (n i : ℕ) → i < length text → (get_or text i 0 < 48) ⊎ (57 < get_or text i 0) → fixed_digits (length text) n ≡ text → ⊥
not-fixed text n i lt odd e = grind (arith, ints, nat_tests, fixed-digit, length)

-- the six digits one by one
pub six-digits : (n : ℕ) → fixed_digits 6 n ≡ (48 + n / 100000 % 10) ∷ (48 + n / 10000 % 10) ∷ (48 + n / 1000 % 10) ∷ (48 + n / 100 % 10) ∷ (48 + n / 10 % 10) ∷ (48 + n % 10) ∷ []
unfolding fixed_digits
six-digits n = grind (arith, ints, nat_tests)

power-le : (k m : ℕ) → 10 ^ k ≤ 10 ^ (k + m)
power-le k zero = rw (add-zero k) (omega arith)
power-le k (suc m) =
    let more = power-le k m in
    let power = pow-suc 10 (k + m) in
    rw (add-suc k m) (omega arith)

-- a number of at most eight digits
pub below-power : (k n : ℕ) → k ≤ 8 → n < 10 ^ k → n < 100000000
below-power k n le lt =
    let room = power-le k (8 - k) in
    let sum : k + (8 - k) ≡ 8 = omega arith in
    grind (arith, ints, nat_tests)

-- a text's first bytes and its next digit
pub digit-more : (text : List ℕ) (i : ℕ) (front : List ℕ) → i < length text → 48 ≤ get_or text i 0 → front ≡ take i text → front ++ (48 + (get_or text i 0 - 48)) ∷ [] ≡ take (suc i) text
digit-more text i front lt digit e =
    let back : 48 + (get_or text i 0 - 48) ≡ get_or text i 0 = omega arith in
    rw (e, back, take-suc text i 0 lt) refl

-- the six digits as they are printed
pub printed-six : (n : ℕ) → decimal (n / 100000 % 10) ++ (decimal (n / 10000 % 10) ++ (decimal (n / 1000 % 10) ++ (decimal (n / 100 % 10) ++ (decimal (n / 10 % 10) ++ decimal (n % 10))))) ≡ fixed_digits 6 n
printed-six n = grind (arith, ints, nat_tests, decimal_digit, six-digits)
