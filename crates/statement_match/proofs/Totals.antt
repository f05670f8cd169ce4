-- Sums of what passes a test, one element on.
use Rattle.statement_match.proofs.Names.{◌≡◌, ◌∙◌, sym, ap, ℕ, ◌+◌, ◌<◌, ℤ, pos, ◌+ℤ◌, Bool, cond, List, [], ◌∷◌, length, get_or, take, refl, arith, ints, filter, filter_more, sum_of, Booking, amount_if, total_of, nat_tests}
use Rattle.firm_rows.proofs.Sums.{sum-append}

sum_picked : {A : Type 0} (f : A → ℤ) (b : Bool) (x : A) → sum_of f (cond b (x ∷ []) []) ≡ cond b (f x) (pos 0)
sum_picked f b x = grind (arith, ints, nat_tests)

pub sum_more : {A : Type 0} (f : A → ℤ) (p : A → Bool) (xs : List A) (i : ℕ) (x : A) → i < length xs → x ≡ get_or xs i x
    → sum_of f (filter p (take (i + 1) xs)) ≡ sum_of f (filter p (take i xs)) +ℤ cond (p x) (f x) (pos 0)
sum_more {A} f p xs i x lt is =
    ap (sum_of f) (filter_more p xs i x lt)
    ∙ sum-append f (filter p (take i xs)) (cond (p (get_or xs i x)) (get_or xs i x ∷ []) [])
    ∙ ap (λ (s : ℤ). sum_of f (filter p (take i xs)) +ℤ s) (sum_picked f (p (get_or xs i x)) (get_or xs i x))
    ∙ ap (λ (y : A). sum_of f (filter p (take i xs)) +ℤ cond (p y) (f y) (pos 0)) (sym is)

-- The same of booked lines.

total_is : (xs : List Booking) → total_of xs ≡ sum_of (λ b. b.amount) xs
total_is [] = refl
total_is (b ∷ xs) = ap (λ (s : ℤ). b.amount +ℤ s) (total_is xs)

pub total_more : (p : Booking → Bool) (xs : List Booking) (i : ℕ) (b : Booking) → i < length xs → b ≡ get_or xs i b
    → total_of (filter p (take (i + 1) xs)) ≡ total_of (filter p (take i xs)) +ℤ amount_if p b
total_more p xs i b lt is =
    total_is (filter p (take (i + 1) xs)) ∙ sum_more (λ y. y.amount) p xs i b lt is
    ∙ ap (λ (s : ℤ). s +ℤ amount_if p b) (sym (total_is (filter p (take i xs))))
