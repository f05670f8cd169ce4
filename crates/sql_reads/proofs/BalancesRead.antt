-- The balance of a kind and day among the rows of its table.
use Rattle.sql_reads.proofs.Names.{◌≡◌, inl, inr, ℕ, ℤ, pos, nat_abs, ◌≤◌, Bool, true, false, ◌==◌, List, [], ◌∷◌, map, filter, find, length, Option, option_map, int_eq, Less, nat_cmp, refl, sym, ap, ◌∙◌, arith, AllByRecursion, cases_Bool, and_parts, nat_tests, length-map, Int, Row, column, sort_by, all_weaker, filter_none, filter-map, BalanceRow, Balance, balance_cmp, balance_shown, is_balance_at, kind_column, balance_from, IsWrittenBalance, int_eq-nat, find-sort_by, slice_get-filter, slice_get, filter_same, None, Some, ints}
use Rattle.std.specs.List.Sorted.{IsStrictlySortedBy}
use Rattle.std.proofs.lemmas.Cmp.{int_cmp_total, on_total, then_total}
use Rattle.std.specs.Cmp.{IsTotalOrder}
use Rattle.firm_rows.specs.declared.ledger.BalanceKind.{BalanceKind}
use Rattle.firm_rows.specs.FirmLines.{place_of, is_balance_on, kept_balance}
use Rattle.firm_rows.specs.FirmLines as own

table_total : IsTotalOrder balance_cmp
table_total = then_total (on_total (λ (b : Balance). b.kind) int_cmp_total) (then_total (on_total (λ (b : Balance). b.day) int_cmp_total) (on_total (λ (b : Balance). b.id) int_cmp_total))

-- Finding by one test and by another.

find_mapped : {X Y : Type 0} (p : Y → Bool) (f : X → Y) (xs : List X) → find p (map f xs) ≡ option_map f (find (λ x. p (f x)) xs)
find_mapped p f [] = refl
find_mapped p f (x ∷ xs) = elim (cases_Bool (p (f x))) [ inl b ↦ rw b refl | inr b ↦ rw b (find_mapped p f xs) ]

module _ {X : Type 0} (p q : X → Bool) where
  pub find_same : (xs : List X) → AllByRecursion (λ x. p x ≡ q x) xs → find p xs ≡ find q xs
  find_same xs all =
      sym (slice_get-filter p xs) ∙ ap (λ l. slice_get l 0) (filter_same p q xs all) ∙ slice_get-filter q xs

-- The tests agree.

same_kind : (a b : BalanceKind) → (place_of a == place_of b) ≡ int_eq (kind_column a) (kind_column b)
same_kind a b = grind arith

same_test : (k : BalanceKind) (day : ℕ) (b : Balance) → IsWrittenBalance b → is_balance_on k day (balance_from b) ≡ is_balance_at (kind_column k) (pos day) b
same_test k day b written =
    grind (arith, ints, nat_tests, kind_column, balance_from, nat_abs, same_kind, int_eq, int_eq-nat)

-- One row of a kind and day at most.

not_less : (k : BalanceKind) (day : ℕ) (r x : BalanceRow) → is_balance_on k day r ≡ true → is_balance_on k day x ≡ true → own.balance_cmp r x ≡ Less → ⊥
not_less k day r x on also lt = grind (arith, ints, nat_tests, and_parts, place_of, nat_cmp)

few_on : (k : BalanceKind) (day : ℕ) (rs : List BalanceRow) → IsStrictlySortedBy own.balance_cmp rs → length (filter (is_balance_on k day) rs) ≤ 1
unfolding IsStrictlySortedBy
few_on k day [] up = omega arith
few_on k day (r ∷ rs) up = elim (cases_Bool (is_balance_on k day r)) [
  | inl on ↦
      let others : AllByRecursion (λ x. is_balance_on k day x ≡ false) rs =
      all_weaker (λ x. own.balance_cmp r x ≡ Less) (λ x. is_balance_on k day x ≡ false)
      (λ x lt. elim (cases_Bool (is_balance_on k day x)) [ inl also ↦ absurd (not_less k day r x on also lt) | inr b ↦ b ]) rs up.0 in
      rw on (rw (filter_none (is_balance_on k day) rs others) (omega arith))
  | inr off ↦ rw off (few_on k day rs up.1)
]

-- the balance that is kept of a kind and day is that of the row of these
pub kept_is_found : (k : BalanceKind) (day : ℕ) (bs : List Balance) → AllByRecursion IsWrittenBalance bs → IsStrictlySortedBy own.balance_cmp (map balance_from (sort_by balance_cmp bs))
    → kept_balance k day (map balance_from (sort_by balance_cmp bs)) ≡ option_map (λ (b : Balance). b.amount) (find (is_balance_at (kind_column k) (pos day)) bs)
kept_is_found k day bs written up =
    let p = λ (b : Balance). is_balance_on k day (balance_from b) in
    let q = is_balance_at (kind_column k) (pos day) in
    let same : AllByRecursion (λ b. p b ≡ q b) bs = all_weaker IsWrittenBalance (λ b. p b ≡ q b) (λ b w. same_test k day b w) bs written in
    let ys = sort_by balance_cmp bs in
    let one : length (filter (is_balance_on k day) (map balance_from ys)) ≤ 1 = few_on k day (map balance_from ys) up in
    let mapped : length (filter (is_balance_on k day) (map balance_from ys)) ≡ length (filter p ys) = ap length (filter-map (is_balance_on k day) balance_from ys) ∙ length-map (filter p ys) balance_from in
    let found : find (is_balance_on k day) (map balance_from ys) ≡ option_map balance_from (find q bs) =
    find_mapped (is_balance_on k day) balance_from ys ∙ ap (option_map balance_from) (find-sort_by balance_cmp table_total p bs (omega (arith, one, mapped)) ∙ find_same p q bs same) in
    ap (option_map (λ row. row.amount)) found ∙ amounts (find q bs)
  where
    amounts : (o : Option Balance) → option_map (λ (row : BalanceRow). row.amount) (option_map balance_from o) ≡ option_map (λ (b : Balance). b.amount) o
    amounts None = refl
    amounts (Some b) = refl

-- the number of a row that shows one is its amount
pub amount_shown : (b : Balance) (r : Row) (z : ℤ) → r ≡ balance_shown b → column r 0 ≡ Int z → z ≡ b.amount
amount_shown b r z is at = grind (arith, ints, nat_tests, column)
