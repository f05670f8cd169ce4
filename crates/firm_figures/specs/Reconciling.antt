-- What a reconciler does with rows that arrive one at a time.
use Rattle.std.specs.Prelude.{ℕ, ◌||◌, cond, ℤ, pos, ◌+ℤ◌, ◌-ℤ◌, Option, Some, None, fold}
use Rattle.std.specs.Option.{option_map}
use Rattle.std.specs.Int.{int_wrap, w128}
use Rattle.trust_base.specs.declared.line.Line.{Line}
use Rattle.matter_rows.specs.declared.entry.Entry.{Entry}
use Rattle.matter_rows.specs.Rows.{entry_amount}
use Rattle.matter_rows.specs.Clearings.{cleared_amount}
use Rattle.firm_rows.specs.declared.movement.Movement.{Movement}
use Rattle.firm_rows.specs.declared.ledger.FirmLine.{FirmLine}
use Rattle.firm_rows.specs.declared.ledger.BalanceRow.{BalanceRow}
use Rattle.firm_rows.specs.Firm.{Row, HeadRow, SeatRow, EntryRow, Firm}
use Rattle.firm_figures.specs.Figures.{is_by, booked_on, undone_on, returned_on, banked_on, back_on, is_banked_early, is_back_early, is_in_transit, is_outstanding, is_moved_by, is_dated_by, is_counted, is_closing_of}
use Rattle.firm_figures.specs.declared.figures.ReconciliationFigures.{ReconciliationFigures}

-- What an entry adds to each figure.

abbrev pub transit_share : ℕ → Entry → ℤ
transit_share p e = cond (is_in_transit p e) (pos (entry_amount e)) (pos 0)

abbrev pub outstanding_share : ℕ → Entry → ℤ
outstanding_share p e = cond (is_outstanding p e) (pos (entry_amount e)) (pos 0)

-- its signed amount if it was booked by p, less that amount if it was undone or returned by p
abbrev pub ledger_share_by : ℕ → Entry → ℤ
ledger_share_by p e =
    cond (is_by p (booked_on e)) (cleared_amount e) (pos 0)
    -ℤ cond (is_by p (undone_on e) || is_by p (returned_on e)) (cleared_amount e) (pos 0)

abbrev pub matched_share : ℕ → Entry → ℤ
matched_share p e =
    cond (is_by p (banked_on e)) (cleared_amount e) (pos 0)
    -ℤ cond (is_by p (back_on e)) (cleared_amount e) (pos 0)

abbrev pub early_share : ℕ → Entry → ℤ
early_share p e =
    cond (is_banked_early p e) (cleared_amount e) (pos 0)
    -ℤ cond (is_back_early p e) (cleared_amount e) (pos 0)

-- The sums.

-- a sum plus an amount, in 128 bits
unfoldable pub added : ℤ → ℤ → ℤ
added sum amount = int_wrap w128 (sum +ℤ amount)

-- what is stored from the rows: the day, its closing balance, and one sum for each figure
pub record Tallies : Type 0 where
  pub day : ℕ
  pub closing : Option ℤ
  pub transit : ℤ
  pub outstanding : ℤ
  pub journal : ℤ
  pub entries : ℤ
  pub own : ℤ
  pub exceptions : ℤ
  pub matched : ℤ
  pub early : ℤ

-- the start, with no rows added yet
abbrev pub no_tallies : ℕ → Tallies
no_tallies p = record {
  day = p;
  closing = None;
  transit = pos 0;
  outstanding = pos 0;
  journal = pos 0;
  entries = pos 0;
  own = pos 0;
  exceptions = pos 0;
  matched = pos 0;
  early = pos 0;
}

abbrev pub with_entry_told : Tallies → Entry → Tallies
with_entry_told s e = record s {
  transit = added s.transit (transit_share s.day e);
  outstanding = added s.outstanding (outstanding_share s.day e);
  entries = added s.entries (ledger_share_by s.day e);
  matched = added s.matched (matched_share s.day e);
  early = added s.early (early_share s.day e);
}

abbrev pub with_row : Tallies → ℕ × Row → Tallies
with_row s (m, HeadRow head) = s
with_row s (m, SeatRow seat) = s
with_row s (m, EntryRow number e) = with_entry_told s e

abbrev pub with_movement : Tallies → Movement → Tallies
with_movement s v = record s { journal = added s.journal (cond (is_moved_by s.day v) v.amount (pos 0)) }

abbrev pub with_own : Tallies → FirmLine → Tallies
with_own s l = record s { own = added s.own (cond (is_dated_by s.day l) l.amount (pos 0)) }

abbrev pub with_exception : Tallies → Line → Tallies
with_exception s l = record s { exceptions = added s.exceptions (cond (is_counted s.day l) l.amount (pos 0)) }

-- the first closing balance of the day is kept
abbrev pub first_of : Option ℤ → Option ℤ → Option ℤ
first_of None o = o
first_of (Some z) o = Some z

abbrev pub with_balance_told : Tallies → BalanceRow → Tallies
with_balance_told s r = record s { closing = first_of s.closing (cond (is_closing_of s.day r) (Some r.amount) None) }

-- The figures from what is stored.

-- a sum minus an amount, in 128 bits
unfoldable pub less : ℤ → ℤ → ℤ
less sum amount = int_wrap w128 (sum -ℤ amount)

abbrev pub figures_kept : Tallies → ℤ → ReconciliationFigures
figures_kept s closing = record {
  closing = closing;
  transit = s.transit;
  outstanding = s.outstanding;
  adjusted = less (added s.transit closing) s.outstanding;
  journal = s.journal;
  ledgers = added s.entries s.own;
  difference = less (less (added s.transit closing) s.outstanding) s.journal;
  exceptions = s.exceptions;
  early = s.early;
  gap = less (less (less closing s.matched) s.own) s.exceptions;
}

abbrev pub finished : Tallies → Option ReconciliationFigures
finished s = option_map (figures_kept s) s.closing

-- What is stored from a whole firm.

-- what is stored from the rows, movements, lines and balances of a firm, in their order
abbrev pub all_taken : ℕ → Firm → Tallies
all_taken p firm =
    fold with_balance_told
    (fold with_exception
    (fold with_own
    (fold with_movement
    (fold with_row (no_tallies p) firm.rows) firm.movements) firm.firm_lines) firm.exceptions) firm.balances
