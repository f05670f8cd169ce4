-- What is stored of a firm's rows for the packet of month's end, part by part.
use Rattle.std.proofs.Common.{◌≡◌, ◌∙◌, ℕ, List, [], ◌∷◌, ap, fold, refl}
use Rattle.firm_rows.specs.declared.movement.Movement.{Movement}
use Rattle.firm_rows.specs.declared.ledger.FirmLine.{FirmLine}
use Rattle.firm_rows.specs.Firm.{Row, Firm}
use Rattle.firm_figures.specs.Clients.{with_client_own, with_client_row}
use Rattle.firm_figures.specs.Reconciliations.{with_movement_kept, with_own_kept, with_row_kept}
use Rattle.firm_periods.specs.Approvals.{ApprovalsKept, with_issued_row}
use Rattle.firm_periods.specs.Month.{IsMonthParted, MonthKept, MonthsAreParted, month_begun, month_kept, with_month_movement, with_month_own, with_month_row}
use Rattle.firm_periods.specs.Named.{with_named_own, with_named_row}

abbrev rows_taken : MonthKept → List (ℕ × Row) → MonthKept
rows_taken s rows = record {
  reconciliation = fold with_row_kept s.reconciliation rows;
  clients = fold with_client_row s.clients rows;
  transit = fold with_named_row s.transit rows;
  outstanding = fold with_named_row s.outstanding rows;
  receipts = fold with_named_row s.receipts rows;
  disbursements = fold with_named_row s.disbursements rows;
  approvals = fold with_issued_row s.approvals rows;
}

abbrev moves_taken : MonthKept → List Movement → MonthKept
moves_taken s moves = record s { reconciliation = fold with_movement_kept s.reconciliation moves }

abbrev lines_taken : MonthKept → List FirmLine → MonthKept
lines_taken s lines = record s {
  reconciliation = fold with_own_kept s.reconciliation lines;
  clients = fold with_client_own s.clients lines;
  transit = fold with_named_own s.transit lines;
  outstanding = fold with_named_own s.outstanding lines;
  receipts = fold with_named_own s.receipts lines;
  disbursements = fold with_named_own s.disbursements lines;
}

rows-parted : (s : MonthKept) (rows : List (ℕ × Row)) → fold with_month_row s rows ≡ rows_taken s rows
rows-parted s [] = refl
rows-parted s (row ∷ rows) = rows-parted (with_month_row s row) rows

moves-parted : (s : MonthKept) (moves : List Movement) → fold with_month_movement s moves ≡ moves_taken s moves
moves-parted s [] = refl
moves-parted s (v ∷ moves) = moves-parted (with_month_movement s v) moves

lines-parted : (s : MonthKept) (lines : List FirmLine) → fold with_month_own s lines ≡ lines_taken s lines
lines-parted s [] = refl
lines-parted s (l ∷ lines) = lines-parted (with_month_own s l) lines

all-parted : (day : ℕ) (approvals : ApprovalsKept) (firm : Firm)
    → month_kept day approvals firm
    ≡ lines_taken (moves_taken (rows_taken (month_begun day approvals) firm.rows) firm.movements) firm.firm_lines
all-parted day approvals firm =
    lines-parted (fold with_month_movement (fold with_month_row (month_begun day approvals) firm.rows) firm.movements) firm.firm_lines
    ∙ ap (λ s. lines_taken s firm.firm_lines) (moves-parted (fold with_month_row (month_begun day approvals) firm.rows) firm.movements
    ∙ ap (λ s. moves_taken s firm.movements) (rows-parted (month_begun day approvals) firm.rows))

pub month-parted : MonthsAreParted
month-parted day approvals firm =
    let all = all-parted day approvals firm in
    record {
      reconciliation = ap (λ (s : MonthKept). s.reconciliation) all;
      clients = ap (λ (s : MonthKept). s.clients) all;
      transit = ap (λ (s : MonthKept). s.transit) all;
      outstanding = ap (λ (s : MonthKept). s.outstanding) all;
      receipts = ap (λ (s : MonthKept). s.receipts) all;
      disbursements = ap (λ (s : MonthKept). s.disbursements) all;
      approvals = ap (λ (s : MonthKept). s.approvals) all;
    }
