-- What a check of a book returns, and what a series of reads that may fail leaves of it.
use Rattle.std.specs.Prelude.{◌≡◌, ◌+◌, ◌-◌, ◌^◌, ◌≤◌, ℕ, Bool, true, false, List, count_by, length, min}
use Rattle.firm_rows.specs.Firm.{EntryRow, Firm, HeadRow, Row, SeatRow}
use Rattle.trust_store.specs.Crashes.{LeavesBefore}
use Rattle.trust_store.specs.Seen.{Seen}
use Rattle.book_reports.specs.declared.checking.RowCounts.{RowCounts}
use Rattle.book_reports.specs.declared.unread.Unread.{Unread}
use Rattle.book_reports.specs.declared.unread.Unread.TheVariants as unread

-- each matter that was ever opened has one head, also if it was purged
abbrev pub is_head : Row → Bool
is_head (HeadRow head) = true
is_head (SeatRow seat) = false
is_head (EntryRow number entry) = false

abbrev pub is_entry : Row → Bool
is_entry (HeadRow head) = false
is_entry (SeatRow seat) = false
is_entry (EntryRow number entry) = true

abbrev pub matter_count : List (ℕ × Row) → ℕ
matter_count rows = count_by (λ p. is_head p.1) rows

abbrev pub entry_count : List (ℕ × Row) → ℕ
entry_count rows = count_by (λ p. is_entry p.1) rows

-- the firm has this many matters, entries (up to the greatest 64-bit number), movements, lines of its own, exceptions
-- and balances
pub record AreCountsOf (firm : Firm) (counts : RowCounts) : Type 0 where
  pub matters : counts.matters ≡ matter_count firm.rows
  pub entries : counts.entries ≡ min (entry_count firm.rows) (2 ^ 64 - 1)
  pub movements : counts.movements ≡ length firm.movements
  pub firm_lines : counts.firm_lines ≡ length firm.firm_lines
  pub exceptions : counts.exceptions ≡ length firm.exceptions
  pub balances : counts.balances ≡ length firm.balances

-- at least so many more calls returned `Store`: a book counts them up to the greatest 64-bit number
abbrev pub IsRaisedBy : ℕ → ℕ → ℕ → Type 0
IsRaisedBy times before after = min (before + times) (2 ^ 64 - 1) ≤ after

-- how many reads of a part by itself were refused for it to be named
abbrev pub refused_alone : Unread → ℕ
refused_alone (unread.Matter m) = 1
refused_alone (unread.Head before) = 1
refused_alone (unread.Seat m) = 1
refused_alone (unread.Entry m before) = 1
refused_alone (unread.Movement n) = 1
refused_alone (unread.FirmLine n) = 1
refused_alone (unread.Exception n) = 1
refused_alone (unread.Balance n) = 1
refused_alone (unread.Act n) = 1
refused_alone (unread.Dismissal n) = 1
refused_alone unread.Elsewhere = 0

-- a part of the book was named because the book refused to read it by itself: it counted that fault
abbrev pub IsRefusedAlone : Seen → Seen → Unread → Type 0
IsRefusedAlone old new row = IsRaisedBy (refused_alone row) old.refusals new.refusals

-- reads, any of which may have failed, leave the rows as they were, and leave nothing new for a crash if the store is
-- still clean; if the store is sure or clean now it was so before, and it still stands for a sound firm if it did; what
-- a crash leaves still lasts; no fault is taken off the count
pub record AreReads
    (old new : Seen) : Type 0 where
  pub same : new.clean → old.stands → new.firm ≡ old.firm
  pub was_clean : new.clean → old.clean
  pub was_sure : new.sure → old.sure
  pub still_stands : new.clean → old.stands → new.stands
  pub still_lasts : new.sure → old.lasts → new.lasts
  pub crash : new.clean → old.stands → LeavesBefore old.leaves new.leaves
  pub counts : IsRaisedBy 0 old.refusals new.refusals
