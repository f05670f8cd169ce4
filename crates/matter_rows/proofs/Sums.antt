-- One law for all balances: a change of one entry moves a sum by that entry's share.
use Rattle.matter_rows.proofs.Names.{◌≡◌, ℕ, ◌-◌, ◌==◌, true, false, cond, List, [], ◌∷◌, ◌++◌, refl, ap, arith, ℤ, pos, ◌+ℤ◌, ◌≤ℤ◌, Some, ints, Entry, total_of, entry_at, with_entry}

pub total-append : (f : Entry → ℤ) (es : List Entry) (e : Entry) → total_of f (es ++ e ∷ []) ≡ total_of f es +ℤ f e
total-append f [] e = omega (arith, ints)
total-append f (x ∷ es) e = omega (arith, ints, total-append f es e)

pub total-with : (f : Entry → ℤ) (es : List Entry) (n : ℕ) (old new : Entry) → entry_at es n ≡ Some old → total_of f (with_entry es n new) +ℤ f old ≡ total_of f es +ℤ f new
total-with f [] n old new h = cc
total-with f (e ∷ es) n old new h =
    elim (n == 1) as (λ b. cond b (Some e) (entry_at es (n - 1)) ≡ Some old → total_of f (cond b (new ∷ es) (e ∷ with_entry es (n - 1) new)) +ℤ f old ≡ (f e +ℤ total_of f es) +ℤ f new) [
      | true ↦ λ g. let k : e ≡ old = cc in let m : f e ≡ f old = ap f k in omega (arith, ints)
      | false ↦ λ g. omega (arith, ints, total-with f es (n - 1) old new g)
    ] h

-- a sum of sums
pub total-add : (f g : Entry → ℤ) (es : List Entry) → total_of (λ e. f e +ℤ g e) es ≡ total_of f es +ℤ total_of g es
total-add f g [] = refl
total-add f g (e ∷ es) = omega (arith, ints, total-add f g es)

pub total-zero : (es : List Entry) → total_of (λ _. pos 0) es ≡ pos 0
total-zero [] = refl
total-zero (e ∷ es) = omega (arith, ints, total-zero es)

pub total-least : (f : Entry → ℤ) (es : List Entry) → ((e : Entry) → pos 0 ≤ℤ f e) → pos 0 ≤ℤ total_of f es
total-least f [] h = omega (arith, ints)
total-least f (e ∷ es) h = omega (arith, ints, total-least f es h, h e)

-- a share is within the sum, where none is below zero
pub total-within : (f : Entry → ℤ) (es : List Entry) (n : ℕ) (e : Entry) → ((e : Entry) → pos 0 ≤ℤ f e) → entry_at es n ≡ Some e → f e ≤ℤ total_of f es
total-within f [] n e h at = cc
total-within f (x ∷ es) n e h at = grind (arith, ints, (total-least f es h), (total-within f es (n - 1) e h))
