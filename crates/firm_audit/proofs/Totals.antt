-- Sums over the first elements of a list.
use Rattle.firm_audit.proofs.Names.{◌≡◌, ℕ, ◌+◌, ◌<◌, ◌≤◌, List, [], ◌∷◌, ◌++◌, length, take, get_or, sym, ap, ◌∙◌, arith, ℤ, ◌+ℤ◌, cases_lt, ints, take_more, sum-append, nat_tests}
use Rattle.firm_rows.specs.Sums.{sum_of}

-- with one element more
pub sum-more : {A : Type 0} (f : A → ℤ) (xs : List A) (i : ℕ) (x : A) → i < length xs → x ≡ get_or xs i x → sum_of f (take (i + 1) xs) ≡ sum_of f (take i xs) +ℤ f x
sum-more f xs i x lt is =
    let one : sum_of f (x ∷ []) ≡ f x = omega (arith, ints) in
    ap (sum_of f) (take_more xs i x lt ∙ ap (λ y. take i xs ++ y ∷ []) (sym is)) ∙ (sum-append f (take i xs) (x ∷ []) ∙ ap (λ z. sum_of f (take i xs) +ℤ z) one)

module _ {A : Type 0} (P : ℤ → Type 0) (f : A → ℤ) (xs : List A) (i : ℕ) (all : (k : ℕ) → k ≤ i → P (sum_of f (take k xs))) where
  -- what holds at each place so far, and at the next
  pub each-more : P (sum_of f (take (i + 1) xs)) → (k : ℕ) → k ≤ i + 1 → P (sum_of f (take k xs))
  each-more here k le = grind (arith, ints, nat_tests, cases_lt, sum_of, take)
