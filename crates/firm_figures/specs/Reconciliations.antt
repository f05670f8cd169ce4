-- The reconciliation as of a day: ten figures and six lists.
use Rattle.std.specs.Prelude.{ℕ, List, Option, fold}
use Rattle.std.specs.Option.{option_map}
use Rattle.trust_base.specs.declared.line.Line.{Line}
use Rattle.firm_rows.specs.declared.movement.Movement.{Movement}
use Rattle.firm_rows.specs.declared.ledger.FirmLine.{FirmLine}
use Rattle.firm_rows.specs.declared.ledger.BalanceRow.{BalanceRow}
use Rattle.firm_rows.specs.Firm.{Row, Firm}
use Rattle.firm_figures.specs.declared.figures.ReconciliationFigures.{ReconciliationFigures}
use Rattle.firm_figures.specs.declared.day_lists.EntryLine.{EntryLine}
use Rattle.firm_figures.specs.declared.day_lists.Issued.{Issued}
use Rattle.firm_figures.specs.declared.day_lists.OpeningLine.{OpeningLine}
use Rattle.firm_figures.specs.declared.reconciliation.Reconciliation.{Reconciliation}
use Rattle.firm_figures.specs.Figures.{figures_on}
use Rattle.firm_figures.specs.Listing.{transit_list, out_list, early_list, exception_list, Listed, none_listed, with_row_listed, with_exception_listed}
use Rattle.firm_figures.specs.Doubles.{double_list, doubles_in, IssuedKept, no_issued, with_row_issued}
use Rattle.firm_figures.specs.Openings.{opening_list, openings_kept, BalancesKept, no_balances, with_balance_kept}
use Rattle.firm_figures.specs.Purged.{PeriodKept, whole_period, with_row_purged}
use Rattle.firm_figures.specs.Reconciling.{Tallies, no_tallies, with_row, with_movement, with_own, with_exception, with_balance_told, finished}

-- the figures and the lists
pub record ReconciliationTold : Type 0 where
  pub figures : ReconciliationFigures
  pub transit : List EntryLine
  pub out : List EntryLine
  pub exceptions : List Line
  pub early : List EntryLine
  pub doubles : List Issued
  pub openings : List OpeningLine

-- the figures and lists of a reconciliation in memory
abbrev pub told : Reconciliation → ReconciliationTold
told r = record {
  figures = r.figures;
  transit = r.lists.transit.items;
  out = r.lists.out.items;
  exceptions = r.lists.exceptions.items;
  early = r.lists.early.items;
  doubles = r.doubles.items;
  openings = r.openings.items;
}

-- the reconciliation of a firm as of p, given its figures
abbrev pub reconciled : ℕ → Firm → ReconciliationFigures → ReconciliationTold
reconciled p firm figures = record {
  figures = figures;
  transit = transit_list p firm;
  out = out_list p firm;
  exceptions = exception_list p firm;
  early = early_list p firm;
  doubles = double_list p firm;
  openings = opening_list p firm.balances;
}

-- the reconciliation of a firm as of p, if there is a closing balance of p
abbrev pub reconciliation_on : ℕ → Firm → Option ReconciliationTold
reconciliation_on p firm = option_map (reconciled p firm) (figures_on p firm)

-- How it is built from rows that arrive one at a time.

pub record ReconciliationKept : Type 0 where
  pub figures : Tallies
  pub lists : Listed
  pub issued : IssuedKept
  pub balances : BalancesKept
  pub period : PeriodKept

abbrev pub nothing_kept : ℕ → ReconciliationKept
nothing_kept p = record {
  figures = no_tallies p;
  lists = none_listed p;
  issued = no_issued p;
  balances = no_balances p;
  period = whole_period p;
}

abbrev pub with_row_kept : ReconciliationKept → ℕ × Row → ReconciliationKept
with_row_kept s row = record s {
  figures = with_row s.figures row;
  lists = with_row_listed s.lists row;
  issued = with_row_issued s.issued row;
  period = with_row_purged s.period row;
}

abbrev pub with_movement_kept : ReconciliationKept → Movement → ReconciliationKept
with_movement_kept s v = record s { figures = with_movement s.figures v }

abbrev pub with_own_kept : ReconciliationKept → FirmLine → ReconciliationKept
with_own_kept s l = record s { figures = with_own s.figures l }

abbrev pub with_exception_kept : ReconciliationKept → Line → ReconciliationKept
with_exception_kept s l = record s { figures = with_exception s.figures l; lists = with_exception_listed s.lists l }

abbrev pub with_balance_noted : ReconciliationKept → BalanceRow → ReconciliationKept
with_balance_noted s r = record s { figures = with_balance_told s.figures r; balances = with_balance_kept s.balances r }

-- what is stored from the rows, movements, lines, exceptions and balances of a firm, in their order
abbrev pub all_kept : ℕ → Firm → ReconciliationKept
all_kept p firm =
    fold with_balance_noted
    (fold with_exception_kept
    (fold with_own_kept
    (fold with_movement_kept
    (fold with_row_kept (nothing_kept p) firm.rows) firm.movements) firm.firm_lines) firm.exceptions) firm.balances

-- the stored lists, with these figures
abbrev pub kept_with : ReconciliationKept → ReconciliationFigures → ReconciliationTold
kept_with s figures = record {
  figures = figures;
  transit = s.lists.transit;
  out = s.lists.out;
  exceptions = s.lists.exceptions;
  early = s.lists.early;
  doubles = doubles_in s.issued.issued;
  openings = openings_kept s.balances;
}

abbrev pub kept_told : ReconciliationKept → Option ReconciliationTold
kept_told s = option_map (kept_with s) (finished s.figures)
