-- The latest closing before a day is found by a search.
use Rattle.firm_figures.proofs.Names.{◌≡◌, ℕ, zero, suc, ◌-◌, ◌<◌, ◌≤◌, Bool, true, false, List, [], ◌∷◌, length, get_or, Option, Some, None, refl, ◌∙◌, arith, ◌&&◌, nat_lt, if◌then◌else◌, AllByRecursion, recursion_from_All, BalanceRow, is_closing, is_closing_before, latest_before}
use Rattle.std.proofs.Common.{fold}

recursion_from_get : (P : BalanceRow → Type 0) (rows : List BalanceRow) (d : BalanceRow) → ((k : ℕ) → k < length rows → P (get_or rows k d)) → AllByRecursion P rows
recursion_from_get P [] d f = tt
recursion_from_get P (r ∷ rows) d f = (f 0 (omega arith), recursion_from_get P rows d (λ k h. f (suc k) (omega (arith, h))))

none-passed : (day : ℕ) (found : Option BalanceRow) (rows : List BalanceRow) → AllByRecursion (λ (r : BalanceRow). nat_lt r.day day ≡ false) rows → fold (λ found r. if is_closing_before day r then Some r else found) found rows ≡ found
none-passed day found [] all = refl
none-passed day found (r ∷ rows) all = cases (is_closing r.kind) (none-passed day found rows all.1)
  where
    cases : (c : Bool) → fold (λ found r. if is_closing_before day r then Some r else found) found rows ≡ found → fold (λ found r. if is_closing_before day r then Some r else found) (if (c && nat_lt r.day day) then Some r else found) rows ≡ found
    cases true more = (λ i. fold (λ found r. if is_closing_before day r then Some r else found) (if all.0 i then Some r else found) rows) ∙ more
    cases false more = more

-- where those up to a place are dated before the day, and no later one is, it is the one at the place
last-passed : (day : ℕ) (found : Option BalanceRow) (rows : List BalanceRow) (j : ℕ) (d : BalanceRow) → AllByRecursion (λ (r : BalanceRow). is_closing r.kind ≡ true) rows → j < length rows → ((k : ℕ) → k ≤ j → nat_lt (get_or rows k d).day day ≡ true) → ((k : ℕ) → j < k → k < length rows → nat_lt (get_or rows k d).day day ≡ false) → fold (λ found r. if is_closing_before day r then Some r else found) found rows ≡ Some (get_or rows j d)
last-passed day found [] j d all lt before behind = absurd (omega (arith, lt))
last-passed day found (r ∷ rows) zero d all lt before behind =
    (λ i. fold (λ found r. if is_closing_before day r then Some r else found) (if (all.0 i && before 0 (omega arith) i) then Some r else found) rows) ∙ ((none-passed day (Some r) rows (recursion_from_get (λ (x : BalanceRow). nat_lt x.day day ≡ false) rows d (λ k h. behind (suc k) (omega arith) (omega (arith, h))))))
last-passed day found (r ∷ rows) (suc j) d all lt before behind =
    (λ i. fold (λ found r. if is_closing_before day r then Some r else found) (if (all.0 i && before 0 (omega arith) i) then Some r else found) rows) ∙ ((last-passed day (Some r) rows j d all.1 (omega (arith, lt)) (λ k le. before (suc k) (omega (arith, le))) (λ k h l. behind (suc k) (omega (arith, h)) (omega (arith, l)))))

pub latest-none : (day : ℕ) (rows : List BalanceRow) → ((k : ℕ) (d : BalanceRow) → k < length rows → nat_lt (get_or rows k d).day day ≡ false) → latest_before day rows ≡ None
latest-none day rows behind = none-passed day None rows (recursion_from_All (λ (x : BalanceRow). nat_lt x.day day ≡ false) rows behind)

pub latest-at : (day : ℕ) (rows : List BalanceRow) (i : ℕ) (d : BalanceRow) → AllByRecursion (λ (r : BalanceRow). is_closing r.kind ≡ true) rows → 0 < i → i ≤ length rows → ((k : ℕ) → k < i → nat_lt (get_or rows k d).day day ≡ true) → ((k : ℕ) → i ≤ k → k < length rows → nat_lt (get_or rows k d).day day ≡ false) → latest_before day rows ≡ Some (get_or rows (i - 1) d)
latest-at day rows i d all some le before behind = last-passed day None rows (i - 1) d all (omega (arith, some, le)) (λ k h. before k (omega (arith, h, some))) (λ k h l. behind k (omega (arith, h, some)) l)
