-- A head that is read back from its columns.
use Rattle.sql_reads.proofs.Names.{◌≡◌, ℕ, ◌==◌, false, ℤ, nat_abs, cond, List, ◌∷◌, Option, IfSome, arith, nat_tests, Int, Null, Row, Head, head_in, head_shown, HasHead, HasTotals, IsHead, IsHolder, client_column, purged_column, closed_column, Figures, day_or_none, figures_from, head_from, with_totals_from, ints}
use Rattle.trust_base.specs.Limits.{IsDay}
use Rattle.matter_rows.specs.declared.head.Head as kept
use Rattle.matter_rows.specs.declared.head.Holder.{Holder}
use Rattle.matter_rows.specs.declared.head.Holder.TheVariants.{Client, Purged}

-- no day of the calendar is 0
day_some : (d : ℕ) → IsDay d → (d == 0) ≡ false
unfolding IsDay
day_some d is = grind (arith, ints, nat_tests)

holder_back : (o : Holder) (client : List ℕ) (purged : ℤ) → IsHolder o → client_column o ≡ client → purged_column o ≡ purged
    → o ≡ cond (nat_abs purged == 0) (Client client) (Purged (nat_abs purged))
holder_back o client purged is a b = grind (arith, ints, nat_tests, nat_abs, day_some)

closed_back : (c : Option ℕ) (z : ℤ) → IfSome c IsDay → closed_column c ≡ z → c ≡ day_or_none (nat_abs z)
closed_back c z is e = grind (arith, ints, nat_tests, day_or_none, nat_abs, day_some)

pub head_back : (h : kept.Head) (x : Head) → IsHead h → HasHead h x → h ≡ head_from x
head_back h x is has =
    let holder = holder_back h.holder x.client x.purged is.0 has.0 has.4 in
    let closed = closed_back h.closed x.closed is.2 has.2 in
    grind (arith, ints, nat_tests, nat_abs)

pub totals_back : (f : Figures) (x : Head) → HasTotals f x → f ≡ figures_from x
totals_back f x has = grind (arith, ints, nat_tests, nat_abs)

-- the head of the columns of a row is that for which the row stands, and so are its totals
pub totals_read : (n : ℤ) (columns : Head) (row : Row) (h : kept.Head) (f : Figures) → columns ≡ head_in (Int n ∷ Null ∷ row)
    → HasHead h columns → IsHead h → HasTotals f columns → (x : Head) → row ≡ head_shown x → record { head = h; figures = f } ≡ with_totals_from x
totals_read n columns row h f given has is totals x shows =
    grind (arith, ints, nat_tests, head_in, head_from, head_back, figures_from, totals_back)
