-- The sum of what the sink of the list of clients keeps is TOTAL.
use Rattle.figure_laws.proofs.Names.{◌≡◌, ℕ, ◌*◌, length, sym, ap, ◌∙◌, subst, arith, ℤ, ◌+ℤ◌, fold, int_wrap, w128, ints, int_wrap_fits, Covered, sum_of, sum-same, sum-filter, Row, HeadRow, SeatRow, EntryRow, IsRowInRange, FirmLine, is_dated_by, own_by, added, of_row, ledger_share_by, all-map, refl}
use Rattle.firm_figures.specs.declared.clients_sink.ClientLine.{ClientLine}
use Rattle.firm_figures.specs.Clients.{client_lines, clients_total}
use Rattle.figure_laws.specs.Kept.{ClientsTotalIsKept}
use Rattle.firm_figures.proofs.Shares.{ledger_by}
use Rattle.figure_laws.proofs.Reconciling.{entry-ledger}
use Rattle.firm_figures.proofs.Sizes.{IsWithin, MOST, CENTS, WHOLE, sum-within, wider, fits, narrow, added-from}
use Rattle.figure_laws.proofs.Clients.{clients-sum}
use Rattle.figure_laws.proofs.ClientRows.{row-within, own-within}

row-same : (p : ℕ) (r : Row) → of_row (ledger_share_by p) r ≡ of_row (ledger_by p) r
row-same p (HeadRow h) = refl
row-same p (SeatRow s) = refl
row-same p (EntryRow n e) = entry-ledger p e

pub total-kept : Covered → ClientsTotalIsKept
total-kept law p firm sound some few =
    let count = some.few in
    let own = subst (IsWithin WHOLE) (sym (sum-filter (is_dated_by p) (λ (l : FirmLine). l.amount) firm.firm_lines)) (own-within p firm.firm_lines few) in
    let each = all-map IsRowInRange (λ q. IsWithin MOST (of_row (ledger_share_by p) q.1)) firm.rows (λ q h. wider CENTS MOST _ (omega arith) (row-within p q h)) some.ranged in
    let rows = wider (length firm.rows * MOST) WHOLE _ (omega (arith, count)) (sum-within (λ (q : ℕ × Row). of_row (ledger_share_by p) q.1) firm.rows each) in
    let lines = subst (IsWithin WHOLE) (sum-same (λ (q : ℕ × Row). of_row (ledger_share_by p) q.1) (λ (q : ℕ × Row). of_row (ledger_by p) q.1) firm.rows (λ q. row-same p q.1) ∙ sym (clients-sum law p firm sound)) rows in
    let same : own_by p firm +ℤ sum_of (λ (l : ClientLine). l.ledger) (client_lines p firm) ≡ clients_total p firm = omega (arith, ints) in
    let total = fits (clients_total p firm) (record { low = omega (arith, ints, own.low, lines.low); high = omega (arith, ints, own.high, lines.high) }) in
    ap (λ z. fold (λ y (l : ClientLine). added y l.ledger) z (client_lines p firm)) (sym (int_wrap_fits w128 (own_by p firm) (narrow _ own)))
    ∙ (added-from (λ (l : ClientLine). l.ledger) (own_by p firm) (client_lines p firm) ∙ (ap (int_wrap w128) same ∙ int_wrap_fits w128 (clients_total p firm) total))
