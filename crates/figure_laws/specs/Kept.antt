-- What is stored from a firm's rows that arrive one at a time is its figures and lists.
use Rattle.std.specs.Int.{w128}
use Rattle.std.specs.Int.RustNames.{FitsSigned}
use Rattle.std.specs.List.Sorted.{IsStrictlySortedBy}
use Rattle.std.specs.Prelude.{◌≡◌, ℕ, List, ℤ, fold, Some}
use Rattle.trust_base.specs.Limits.{IsBankAmount}
use Rattle.firm_rows.specs.Countable.{AreCountable, IsRowInRange, IsFirmLineInRange, IsMovementInRange, IsCountable}
use Rattle.firm_rows.specs.Firm.{Firm}
use Rattle.firm_rows.specs.FirmLines.{balance_cmp}
use Rattle.firm_rows.specs.FirmSound.{IsInOrder, FirmSound}
use Rattle.firm_rows.specs.declared.ledger.BalanceRow.{BalanceRow}
use Rattle.firm_rows.specs.declared.movement.Movement.{Movement}
use Rattle.firm_figures.specs.Clients.{clients_total, no_clients, with_client_row, with_client_own, clients_of, clients_sum}
use Rattle.firm_figures.specs.Doubles.{issued_list, no_issued, with_row_issued}
use Rattle.firm_figures.specs.Figures.{figures, closing_on, figures_on}
use Rattle.firm_figures.specs.Listing.{transit_list, out_list, early_list, exception_list, none_listed, with_row_listed, with_exception_listed}
use Rattle.firm_figures.specs.Lists.{journal_of, no_journal, with_moved, trial_total, trial_kept, trial_of, trial_sum, retention_list, none_retained, with_row_retained}
use Rattle.firm_figures.specs.Openings.{opening_list, no_balances, with_balance_kept, AreClosings, openings_kept}
use Rattle.firm_figures.specs.Purged.{is_period_purged}
use Rattle.firm_figures.specs.Reconciliations.{all_kept, kept_told, reconciliation_on}
use Rattle.firm_figures.specs.Reconciling.{finished, all_taken}
use Rattle.firm_figures.specs.declared.figures.ReconciliationFigures.{ReconciliationFigures}

-- The figures.

-- every figure fits 128 bits
pub record AreInRange (f : ReconciliationFigures) : Type 0 where
  pub transit : FitsSigned w128 f.transit
  pub outstanding : FitsSigned w128 f.outstanding
  pub adjusted : FitsSigned w128 f.adjusted
  pub journal : FitsSigned w128 f.journal
  pub ledgers : FitsSigned w128 f.ledgers
  pub difference : FitsSigned w128 f.difference
  pub exceptions : FitsSigned w128 f.exceptions
  pub early : FitsSigned w128 f.early
  pub gap : FitsSigned w128 f.gap

-- if every figure fits, the stored figures are those of the firm
abbrev pub FiguresKept : Type 0
FiguresKept =
    (p : ℕ) (firm : Firm)
    → ((closing : ℤ) → closing_on p firm.balances ≡ Some closing → AreInRange (figures p closing firm))
    → finished (all_taken p firm) ≡ figures_on p firm

-- the figures of a sound, countable firm fit 128 bits
abbrev pub FiguresFit : Type 0
FiguresFit =
    (p : ℕ) (closing : ℤ) (firm : Firm) → FirmSound firm → IsCountable firm → IsBankAmount closing
    → AreInRange (figures p closing firm)

-- so the figures stored from a sound, countable firm are those of the firm
abbrev pub FiguresTold : Type 0
FiguresTold =
    (p : ℕ) (firm : Firm) → FirmSound firm → IsCountable firm → finished (all_taken p firm) ≡ figures_on p firm

-- The lists that go with them.

-- what a lister stores from a firm's rows and exceptions is its lists as of the day
abbrev pub ListsKept : Type 0
ListsKept =
    (p : ℕ) (firm : Firm)
    → fold with_exception_listed (fold with_row_listed (none_listed p) firm.rows) firm.exceptions ≡ record {
      day = p;
      transit = transit_list p firm;
      out = out_list p firm;
      early = early_list p firm;
      exceptions = exception_list p firm;
    }

-- what is stored from a firm's rows is the list of payments issued on or before the day, and not voided by then
abbrev pub IssuedIsKept : Type 0
IssuedIsKept = (p : ℕ) (firm : Firm) → (fold with_row_issued (no_issued p) firm.rows).issued ≡ issued_list p firm

-- what is stored from all balances gives the openings that differ; if the balances are sorted, so are the closings by
-- day
pub record AreOpeningsKept (p : ℕ) (rows : List BalanceRow) : Type 0 where
  pub lines : openings_kept (fold with_balance_kept (no_balances p) rows) ≡ opening_list p rows
  pub rising : IsStrictlySortedBy balance_cmp rows → AreClosings (fold with_balance_kept (no_balances p) rows).closings

abbrev pub OpeningsKept : Type 0
OpeningsKept = (p : ℕ) (rows : List BalanceRow) → AreOpeningsKept p rows

-- The reconciliation.

-- what is stored from a sound, countable firm gives its reconciliation, and whether the records of the day are complete
pub record IsReconciliationKept (p : ℕ) (firm : Firm) : Type 0 where
  pub told : kept_told (all_kept p firm) ≡ reconciliation_on p firm
  pub rising : AreClosings (all_kept p firm).balances.closings
  pub purged : (all_kept p firm).period.purged ≡ is_period_purged p firm

abbrev pub ReconciliationIsKept : Type 0
ReconciliationIsKept = (p : ℕ) (firm : Firm) → FirmSound firm → IsCountable firm → IsReconciliationKept p firm

-- The journal, the trial balance and the retention list.

-- what the journal's sink stores from countable movements is the journal
abbrev pub JournalIsKept : Type 0
JournalIsKept =
    (movements : List Movement) → AreCountable IsMovementInRange movements
    → (fold with_moved no_journal movements).lines ≡ journal_of movements

-- what the trial balance's sink stores from an ordered, countable firm is the open matters with their ledgers, and the
-- firm's own balance
abbrev pub TrialIsKept : Type 0
TrialIsKept =
    (firm : Firm) → IsInOrder firm
    → AreCountable IsRowInRange firm.rows → AreCountable IsFirmLineInRange firm.firm_lines
    → trial_kept firm ≡ trial_of firm

-- if the firm is sound, the sum of these, in 128 bits, is TOTAL
abbrev pub TotalIsKept : Type 0
TotalIsKept =
    (firm : Firm) → FirmSound firm
    → AreCountable IsRowInRange firm.rows → AreCountable IsFirmLineInRange firm.firm_lines
    → trial_sum (trial_of firm) ≡ trial_total firm

-- what the retention sink stores from a firm's rows is the retention list
abbrev pub RetentionIsKept : Type 0
RetentionIsKept =
    (today : ℕ) (firm : Firm)
    → fold with_row_retained (none_retained today) firm.rows
    ≡ record { today = today; lines = retention_list today firm }

-- The list of clients.

-- what the sink stores from all rows and lines of an ordered, countable firm is the list
abbrev pub ClientsAreKept : Type 0
ClientsAreKept =
    (p : ℕ) (firm : Firm) → IsInOrder firm
    → AreCountable IsRowInRange firm.rows → AreCountable IsFirmLineInRange firm.firm_lines
    → fold with_client_own (fold with_client_row (no_clients p) firm.rows) firm.firm_lines
    ≡ clients_of p firm

-- if the firm is sound, the sum of what is stored, in 128 bits, is TOTAL
abbrev pub ClientsTotalIsKept : Type 0
ClientsTotalIsKept =
    (p : ℕ) (firm : Firm) → FirmSound firm
    → AreCountable IsRowInRange firm.rows → AreCountable IsFirmLineInRange firm.firm_lines
    → clients_sum (clients_of p firm) ≡ clients_total p firm
