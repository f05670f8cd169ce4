-- The rows of each matter stand together, also after a change.
use Rattle.firm_rows.proofs.Names.{◌≡◌, ◌≢◌, ℕ, ◌<◌, ◌≤◌, Bool, true, List, [], ◌++◌, sym, ap, ◌∙◌, subst, arith, append_assoc, append-nil, ◌⊎◌, inl, inr, nat_lt, cases_lt, nat_tests, Edit, Rows, MatterChange, changed_by, Row, Firm, of, pairs, put, rewritten_by, purged_by, after_edit, after_change, IsInOrder}
use Rattle.firm_rows.proofs.Trail.{order-trail}
use Rattle.firm_rows.proofs.Joined.{before, behind, passing, passing-append, passing-put, passing_twice, passing_never, passing_swap, pairs_pass, pairs_fail}
use Rattle.firm_rows.proofs.Changed.{each-matter, EditCases, edit-cases, of-purged_by, of_other-purged_by}

-- what passes a test passes it again
passing_kept : (t s : ℕ → Bool) (xs : List (ℕ × Row)) → ((x : ℕ) → s x ≡ true → t x ≡ true) → passing t (passing s xs) ≡ passing s xs
passing_kept t s xs h = passing_swap t s xs ∙ passing_twice s t xs h

-- rows that are put in are put in among those that pass a test, too
put-passing : (k : ℕ) (rows : Rows) (t : ℕ → Bool) (xs : List (ℕ × Row)) → t k ≡ true → put k rows xs ≡ xs → put k rows (passing t xs) ≡ passing t xs
put-passing k rows t xs h is =
    (λ i. passing_swap (λ x. nat_lt x k) t xs i ++ (sym (pairs_pass t k rows h) i ++ passing_swap (λ x. nat_lt k x) t xs i))
    ∙ (ap (λ ys. passing t (before k xs) ++ ys) (sym (passing-append t (pairs k rows) (behind k xs)))
    ∙ (sym (passing-append t (before k xs) (pairs k rows ++ behind k xs)) ∙ ap (passing t) is))

-- rows of a lesser number are put in front
put-front : (k : ℕ) (rows : Rows) (xs ys : List (ℕ × Row)) → before k ys ≡ [] → behind k ys ≡ ys → put k rows (xs ++ ys) ≡ put k rows xs ++ ys
put-front k rows xs ys none all =
    (λ i. (passing-append (λ x. nat_lt x k) xs ys ∙ (ap (λ zs. before k xs ++ zs) none ∙ append-nil (before k xs))) i ++ (pairs k rows ++ (passing-append (λ x. nat_lt k x) xs ys ∙ ap (λ zs. behind k xs ++ zs) all) i))
    ∙ (ap (λ zs. before k xs ++ zs) (sym (append_assoc (pairs k rows) (behind k xs) ys)) ∙ sym (append_assoc (before k xs) (pairs k rows ++ behind k xs) ys))

-- and those of a greater number behind
put-rear : (k : ℕ) (rows : Rows) (xs ys : List (ℕ × Row)) → before k xs ≡ xs → behind k xs ≡ [] → put k rows (xs ++ ys) ≡ xs ++ put k rows ys
put-rear k rows xs ys all none =
    (λ i. (passing-append (λ x. nat_lt x k) xs ys ∙ ap (λ zs. zs ++ before k ys) all) i ++ (pairs k rows ++ (passing-append (λ x. nat_lt k x) xs ys ∙ ap (λ zs. zs ++ behind k ys) none) i))
    ∙ append_assoc xs (before k ys) (pairs k rows ++ behind k ys)

pub put-again : (m : ℕ) (rows : Rows) (xs : List (ℕ × Row)) → put m rows (put m rows xs) ≡ put m rows xs
put-again m rows xs =
    let front =
    passing-put (λ x. nat_lt x m) m rows xs
    ∙ ((λ i. passing_kept (λ x. nat_lt x m) (λ x. nat_lt x m) xs (λ x h. h) i ++ (pairs_fail (λ x. nat_lt x m) m rows (grind (arith, nat_tests)) i ++ passing_never (λ x. nat_lt x m) (λ x. nat_lt m x) xs (λ x h. grind (arith, nat_tests)) i)) ∙ append-nil (before m xs)) in
    let rear =
    passing-put (λ x. nat_lt m x) m rows xs
    ∙ (λ i. passing_never (λ x. nat_lt m x) (λ x. nat_lt x m) xs (λ x h. grind (arith, nat_tests)) i ++ (pairs_fail (λ x. nat_lt m x) m rows (grind (arith, nat_tests)) i ++ passing_kept (λ x. nat_lt m x) (λ x. nat_lt m x) xs (λ x h. h) i)) in
    λ i. front i ++ (pairs m rows ++ rear i)

-- the rows of another matter stand together still
pub put-other : (k m : ℕ) (own rows : Rows) (xs : List (ℕ × Row)) → k ≢ m → put k own xs ≡ xs → put k own (put m rows xs) ≡ put m rows xs
put-other k m own rows xs apart is = cases (cases_lt k m)
  where
    cases : (k < m) ⊎ (m ≤ k) → put k own (put m rows xs) ≡ put m rows xs
    cases (inl lt) =
        let rest = pairs m rows ++ behind m xs in
        let none : before k rest ≡ [] = passing-append (λ x. nat_lt x k) (pairs m rows) (behind m xs) ∙ (λ i. pairs_fail (λ x. nat_lt x k) m rows (grind (arith, nat_tests)) i ++ passing_never (λ x. nat_lt x k) (λ x. nat_lt m x) xs (λ x h. grind (arith, nat_tests)) i) in
        let all : behind k rest ≡ rest = passing-append (λ x. nat_lt k x) (pairs m rows) (behind m xs) ∙ (λ i. pairs_pass (λ x. nat_lt k x) m rows (grind (arith, nat_tests)) i ++ passing_kept (λ x. nat_lt k x) (λ x. nat_lt m x) xs (λ x h. grind (arith, nat_tests)) i) in
        put-front k own (before m xs) rest none all ∙ ap (λ ys. ys ++ rest) (put-passing k own (λ x. nat_lt x m) xs (grind (arith, nat_tests)) is)
    cases (inr le) =
        let low = before m xs in
        let all : before k low ≡ low = passing_kept (λ x. nat_lt x k) (λ x. nat_lt x m) xs (λ x h. grind (arith, nat_tests)) in
        let none : behind k low ≡ [] = passing_never (λ x. nat_lt k x) (λ x. nat_lt x m) xs (λ x h. grind (arith, nat_tests)) in
        let all_own : before k (pairs m rows) ≡ pairs m rows = pairs_pass (λ x. nat_lt x k) m rows (grind (arith, nat_tests)) in
        let none_own : behind k (pairs m rows) ≡ [] = pairs_fail (λ x. nat_lt k x) m rows (grind (arith, nat_tests)) in
        put-rear k own low (pairs m rows ++ behind m xs) all none
        ∙ ap (λ ys. low ++ ys) (put-rear k own (pairs m rows) (behind m xs) all_own none_own ∙ ap (λ ys. pairs m rows ++ ys) (put-passing k own (λ x. nat_lt m x) xs (grind (arith, nat_tests)) is))

rows-put : (m : ℕ) (rows : Rows) (firm : Firm) → IsInOrder firm → (k : ℕ) → put k (of k (purged_by m rows firm)) (put m rows firm.rows) ≡ put m rows firm.rows
rows-put m rows firm order =
    each-matter (λ k. put k (of k (purged_by m rows firm)) (put m rows firm.rows) ≡ put m rows firm.rows) m
    (ap (λ r. put m r (put m rows firm.rows)) (of-purged_by m rows firm) ∙ put-again m rows firm.rows)
    (λ k apart. ap (λ r. put k r (put m rows firm.rows)) (of_other-purged_by k m rows firm apart) ∙ put-other k m (of k firm) rows firm.rows apart (order.rows k))

pub in_order-rewritten_by : (m : ℕ) (e : Edit) (last : ℕ) (firm : Firm) → IsInOrder firm → IsInOrder (rewritten_by m e last firm)
in_order-rewritten_by m e last firm order = record { rows = rows-put m (changed_by e last (of m firm)) firm order; exceptions = order.exceptions; balances = order.balances }

pub in_order-purged_by : (m : ℕ) (rows : Rows) (firm : Firm) → IsInOrder firm → IsInOrder (purged_by m rows firm)
in_order-purged_by m rows firm order = record { rows = rows-put m rows firm order; exceptions = order.exceptions; balances = order.balances }

pub stays-in_order : (m : ℕ) (change : MatterChange) (firm : Firm) → IsInOrder firm → IsInOrder (after_change m change firm)
stays-in_order m change firm order = order-trail _ _ (after_edit m change.edit change.last firm) (cases (edit-cases m change.edit change.last firm))
  where
    cases : EditCases m change.edit change.last firm → IsInOrder (after_edit m change.edit change.last firm)
    cases (inl same) = subst IsInOrder (sym same.1) order
    cases (inr (inl is)) = subst IsInOrder (sym is.0) (in_order-rewritten_by m change.edit change.last firm order)
    cases (inr (inr is)) = subst IsInOrder (sym is.after) (in_order-purged_by m (changed_by change.edit change.last (of m firm)) firm order)
