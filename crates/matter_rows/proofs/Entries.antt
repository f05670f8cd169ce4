-- Entries by number, after an entry is added or exchanged.
use Rattle.matter_rows.proofs.Names.{AllByRecursion, ◌≡◌, ℕ, ◌+◌, ◌-◌, ◌<◌, ◌≤◌, true, false, cond, List, [], ◌∷◌, ◌++◌, length, refl, arith, Some, None, eqb, nat_tests, Entry, entry_at, with_entry}

pub entry_at-append : (es : List Entry) (x : Entry) (n : ℕ) → entry_at (es ++ x ∷ []) n ≡ cond (eqb n (length es + 1)) (Some x) (entry_at es n)
entry_at-append [] x n = refl
entry_at-append (e ∷ es) x n = grind (arith, nat_tests, (entry_at-append es x (n - 1)))

pub entry_at-with : (es : List Entry) (k : ℕ) (old new : Entry) (n : ℕ) → entry_at es k ≡ Some old → entry_at (with_entry es k new) n ≡ cond (eqb n k) (Some new) (entry_at es n)
entry_at-with [] k old new n h = cc
entry_at-with (e ∷ es) k old new n h = grind (arith, nat_tests, (entry_at-with es (k - 1) old new (n - 1)))

pub length-with : (es : List Entry) (n : ℕ) (e' : Entry) → length (with_entry es n e') ≡ length es
length-with [] n e' = refl
length-with (e ∷ es) n e' = grind (arith, nat_tests, (length-with es (n - 1) e'))

pub within : (es : List Entry) (n : ℕ) (e : Entry) → entry_at es n ≡ Some e → (0 < n) × (n ≤ length es)
within [] n e h = cc
within (x ∷ es) n e h = grind (arith, nat_tests, (within es (n - 1) e))

-- past the end there is no entry
pub none-past : (es : List Entry) (n : ℕ) → length es < n → entry_at es n ≡ None
none-past [] n h = refl
none-past (e ∷ es) n h = grind (arith, nat_tests, (none-past es (n - 1)))

-- up to the end there is one
pub some-within : (es : List Entry) (n : ℕ) → 0 < n → n ≤ length es → (e : Entry) × (entry_at es n ≡ Some e)
some-within [] n p h = absurd (omega arith)
some-within (x ∷ es) n p h =
    elim (eqb n 1) as (λ b. b ≡ eqb n 1 → (e : Entry) × (cond b (Some x) (entry_at es (n - 1)) ≡ Some e)) [
      | true ↦ λ s. (x, refl)
      | false ↦ λ s. let big : 1 < n = grind (arith, nat_tests) in some-within es (n - 1) (omega arith) (omega arith)
    ] refl

pub all-at : (P : Entry → Type 0) (es : List Entry) (n : ℕ) (e : Entry) → AllByRecursion P es → entry_at es n ≡ Some e → P e
all-at P [] n e h g = cc
all-at P (x ∷ es) n e h g = grind (arith, nat_tests, (all-at P es (n - 1) e h.1))

pub all-append : (P : Entry → Type 0) (es : List Entry) (x : Entry) → AllByRecursion P es → P x → AllByRecursion P (es ++ x ∷ [])
all-append P [] x h p = (p, tt)
all-append P (e ∷ es) x h p = (h.0, all-append P es x h.1 p)

pub all-with : (P : Entry → Type 0) (es : List Entry) (n : ℕ) (x : Entry) → AllByRecursion P es → P x → AllByRecursion P (with_entry es n x)
all-with P [] n x h p = tt
all-with P (e ∷ es) n x h p = grind (arith, nat_tests, (all-with P es (n - 1) x h.1 p))
