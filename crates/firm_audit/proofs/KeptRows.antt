-- The rows of sound matters that are kept by number.
use Rattle.firm_audit.proofs.Names.{◌≡◌, ◌≢◌, ℕ, ◌≤◌, Bool, true, false, List, [], ◌∷◌, ◌++◌, cond, refl, sym, ap, ◌∙◌, arith, nat_lt, ◌==◌, AllByRecursion, nat_tests, Rows, unopened, pairs, put, KeptMatter, rows_kept, joined, IsBefore, Ascends, rows_in, joined_pass, joined_fail}
use Rattle.firm_rows.proofs.Joined.{passing}
use Rattle.firm_rows.proofs.Order.{put-again, put-other}

-- A matter by its number.

-- nothing is kept of a number below the others
pub rows_in-below : (m n : ℕ) (ks : List KeptMatter) → m ≤ n → IsBefore n ks → rows_in m ks ≡ unopened
rows_in-below m n [] le h = refl
rows_in-below m n (k ∷ ks) le h = grind (arith, nat_tests, nat_lt)

-- what holds of each kept matter's rows, and of those of a matter that was never opened, holds of all
pub at-each : (P : ℕ → Rows → Type 0) (m : ℕ) (ks : List KeptMatter) → (rows_in m ks ≡ unopened → P m unopened) → AllByRecursion (λ k. P k.number (rows_kept k.matter)) ks → P m (rows_in m ks)
at-each P m [] none all = none refl
at-each P m (k ∷ ks) none all = grind (arith, nat_tests, nat_lt, (at-each P m ks))

-- The joined rows.

-- the first matter is put in among the others
joined-put : (k : KeptMatter) (ks : List KeptMatter) → IsBefore k.number ks → joined (k ∷ ks) ≡ put k.number (rows_kept k.matter) (joined ks)
joined-put k ks h =
    let low : passing (λ x. nat_lt x k.number) (joined ks) ≡ [] = joined_fail (λ x. nat_lt x k.number) k.number ks h (λ x lt. grind (arith, nat_tests)) in
    let high : passing (λ x. nat_lt k.number x) (joined ks) ≡ joined ks = joined_pass (λ x. nat_lt k.number x) k.number ks h (λ x lt. grind (arith, nat_tests)) in
    sym (λ i. low i ++ (pairs k.number (rows_kept k.matter) ++ high i))

-- the rows of each matter stand together
pub joined-in_order : (m : ℕ) (ks : List KeptMatter) → Ascends ks → put m (rows_in m ks) (joined ks) ≡ joined ks
joined-in_order m [] up = refl
joined-in_order m (k ∷ ks) up = cases (nat_lt k.number m) (k.number == m) refl refl (joined-in_order m ks up.1)
  where
    at : joined (k ∷ ks) ≡ put k.number (rows_kept k.matter) (joined ks)
    at = joined-put k ks up.0

    among-others : m ≢ k.number → put m (rows_in m ks) (joined ks) ≡ joined ks → put m (rows_in m ks) (joined (k ∷ ks)) ≡ joined (k ∷ ks)
    among-others apart again = ap (put m (rows_in m ks)) at ∙ (put-other m k.number (rows_in m ks) (rows_kept k.matter) (joined ks) apart again ∙ sym at)

    cases : (b c : Bool) → nat_lt k.number m ≡ b → (k.number == m) ≡ c → put m (rows_in m ks) (joined ks) ≡ joined ks → put m (cond b (rows_in m ks) (cond c (rows_kept k.matter) unopened)) (joined (k ∷ ks)) ≡ joined (k ∷ ks)
    cases true c bi ci again = among-others (grind (arith, nat_tests)) again
    cases false true bi ci again =
        let same : m ≡ k.number = grind (arith, nat_tests) in
        ap (λ n. put n (rows_kept k.matter) (joined (k ∷ ks))) same ∙ (ap (put k.number (rows_kept k.matter)) at ∙ (put-again k.number (rows_kept k.matter) (joined ks) ∙ sym at))
    cases false false bi ci again =
        let below : m ≤ k.number = grind (arith, nat_tests) in
        let apart : m ≢ k.number = grind (arith, nat_tests) in
        ap (λ rows. put m rows (joined (k ∷ ks))) (sym (rows_in-below m k.number ks below up.0)) ∙ among-others apart again
