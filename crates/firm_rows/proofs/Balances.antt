-- The balances stay in order.
use Rattle.firm_rows.proofs.Names.{◌≡◌, ◌≢◌, ℕ, zero, suc, ◌<◌, true, List, [], ◌∷◌, length, get_or, None, arith, IsStrictlySortedBy, IsTotalOrder, Ordering, Equal, nat_cmp, ordering_then, nat_tests, on_total, then_total, nat_cmp_total, BalanceRow, place_of, balance_cmp, with_balance, is_balance_on, kept_balance}
use Rattle.std.proofs.lemmas.Map.Lookups.{exact_unsigned}
use Rattle.firm_rows.proofs.Ordered.{with-sorted}

pub balance_total : IsTotalOrder balance_cmp
balance_total = then_total (on_total (λ (r : BalanceRow). place_of r.kind) nat_cmp_total) (on_total (λ (r : BalanceRow). r.day) nat_cmp_total)

pub balances-sorted : (row : BalanceRow) (rows : List BalanceRow) → IsStrictlySortedBy balance_cmp rows → IsStrictlySortedBy balance_cmp (with_balance row rows)
balances-sorted row rows up = with-sorted balance_cmp balance_total row rows up

-- What a search finds.

both-equal : (r s : Ordering) → ordering_then r s ≡ Equal → (r ≡ Equal) × (s ≡ Equal)
both-equal r s is = (grind (arith), grind (arith))

-- a balance that ties with another is of its kind and day
pub tied-on : (row x : BalanceRow) → balance_cmp x row ≡ Equal → is_balance_on row.kind row.day x ≡ true
tied-on row x is = grind (arith, nat_tests, both-equal, nat_cmp, place_of, exact_unsigned)

-- so where none of its kind and day is kept, none ties with it
pub none-tied : (row : BalanceRow) (rows : List BalanceRow) (i : ℕ) (d : BalanceRow) → kept_balance row.kind row.day rows ≡ None → i < length rows → balance_cmp (get_or rows i d) row ≢ Equal
none-tied row [] i d none lt is = omega (arith, lt)
none-tied row (x ∷ xs) zero d none lt is = grind (arith, tied-on row x is)
none-tied row (x ∷ xs) (suc i) d none lt is = none-tied row xs i d (grind (arith)) (omega (arith, lt)) is
