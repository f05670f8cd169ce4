-- The balances of a firm, as their table keeps them and in their order.
use Rattle.sql_rows.proofs.Names.{◌≡◌, ℕ, ℤ, pos, nat_abs, eqb, false, List, [], ◌∷◌, map, None, find, sym, ap, ◌∙◌, arith, int_cmp, is_eq, AllByRecursion, IsTotalOrder, tied_then, nat_cmp, ordering_then, nat_tests, int_cmp_total, on_total, then_total, IsKeyedBy, next_key, sort_by, all_weaker, all-append, all_unmap, IsPermutation-sort_by, BalanceKind, place_of, with_balance, is_balance_on, kept_balance, Balance, balance_cmp, add_balance, kind_column, balance_columns, IsWrittenBalance, balance_from, balance_kind_from, none_from_any, is_some, any_is_found, is_some-map, all-permutation, ints}
use Rattle.firm_rows.specs.declared.ledger.BalanceRow.{BalanceRow}
use Rattle.firm_rows.specs.FirmLines as firm
use Rattle.firm_rows.proofs.Balances.{balance_total}
use Rattle.sql_rows.proofs.RowOrder.{read-push, read_cmp, then_assoc}

-- The order of the rows is that of the balances, and then that of the rowids.

row_total : IsTotalOrder balance_cmp
row_total =
    then_total (on_total (λ (b : Balance). b.kind) int_cmp_total)
    (then_total (on_total (λ (b : Balance). b.day) int_cmp_total) (on_total (λ (b : Balance). b.id) int_cmp_total))

kind_cmp : (k l : BalanceKind) → int_cmp (kind_column k) (kind_column l) ≡ nat_cmp (place_of k) (place_of l)
kind_cmp k l = grind arith

of_kind : (b : Balance) → IsWrittenBalance b → b.kind ≡ kind_column (balance_kind_from b.kind)
of_kind b is = ap (λ (x : Balance). x.kind) is

dated : (b : Balance) → IsWrittenBalance b → b.day ≡ pos (nat_abs b.day)
dated b is = ap (λ (x : Balance). x.day) is

balances_agree : (a b : Balance) → IsWrittenBalance a → IsWrittenBalance b
    → balance_cmp a b ≡ ordering_then (firm.balance_cmp (balance_from a) (balance_from b)) (int_cmp a.id b.id)
balances_agree a b is also = grind (arith, ints, nat_tests, place_of, of_kind, kind_cmp, read_cmp, dated, then_assoc)

abbrev key : Balance → ℤ
key b = b.id

-- the balances for which the rows stand
abbrev balances_from : List Balance → List BalanceRow
balances_from bs = map balance_from (sort_by balance_cmp bs)

-- With a balance.

equal_test : (m n : ℕ) → eqb m n ≡ is_eq (nat_cmp m n)
equal_test m n = grind (arith, nat_tests)

-- a balance is of another's kind and day where it ties with that
on_tied : (row x : BalanceRow) → is_balance_on row.kind row.day x ≡ is_eq (firm.balance_cmp x row)
on_tied row x = grind (arith, ints, nat_tests, equal_test, place_of, tied_then, nat_cmp)

none_on : (row : BalanceRow) (rows : List BalanceRow) → kept_balance row.kind row.day rows ≡ None
    → AllByRecursion (λ x. is_eq (firm.balance_cmp x row) ≡ false) rows
none_on row rows none =
    let test = is_balance_on row.kind row.day in
    let found = is_some-map (λ (r : BalanceRow). r.amount) (find test rows) in
    all_weaker (λ x. test x ≡ false) _ (λ x off. sym (on_tied row x) ∙ off) rows
    (none_from_any test rows (any_is_found test rows ∙ sym found ∙ ap is_some none))

-- the row that is put behind the others
abbrev added : BalanceRow → List Balance → Balance
added row bs = record (balance_columns row) { id = next_key key bs }

kind_back : (k : BalanceKind) → balance_kind_from (kind_column k) ≡ k
kind_back k = grind arith

back : (row : BalanceRow) (bs : List Balance) → balance_from (added row bs) ≡ row
back row bs = λ i. record row { kind = kind_back row.kind i }

is_written : (row : BalanceRow) (bs : List Balance) → IsWrittenBalance (added row bs)
is_written row bs = ap balance_columns (sym (back row bs))

-- a balance of another kind or day than each comes to its place among those for which the rows stand
pub balances_with : (row : BalanceRow) (bs : List Balance) → IsKeyedBy key bs → AllByRecursion IsWrittenBalance bs
    → kept_balance row.kind row.day (balances_from bs) ≡ None
    → balances_from (add_balance (balance_columns row) bs) ≡ with_balance row (balances_from bs)
balances_with row bs up all none =
    let apart : AllByRecursion (λ b. is_eq (firm.balance_cmp (balance_from b) row) ≡ false) bs =
    all-permutation _ (sort_by balance_cmp bs) bs (IsPermutation-sort_by balance_cmp row_total bs)
    (all_unmap _ balance_from (sort_by balance_cmp bs) (none_on row (balances_from bs) none)) in
    read-push key balance_cmp row_total firm.balance_cmp balance_total balance_from IsWrittenBalance balances_agree bs
    (added row bs) up all (is_written row bs)
    (all_weaker _ _ (λ b h. ap (λ x. is_eq (firm.balance_cmp (balance_from b) x)) (back row bs) ∙ h) bs apart)
    ∙ ap (λ x. with_balance x (balances_from bs)) (back row bs)

-- and each row is what would be written
pub added_written : (row : BalanceRow) (bs : List Balance) → AllByRecursion IsWrittenBalance bs
    → AllByRecursion IsWrittenBalance (add_balance (balance_columns row) bs)
added_written row bs all = all-append IsWrittenBalance bs (added row bs ∷ []) all (is_written row bs, tt)
