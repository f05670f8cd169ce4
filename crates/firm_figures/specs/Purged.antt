-- When the records of a day are no longer complete, and which figures and lists a purge leaves unchanged.
use Rattle.std.specs.Prelude.{◌≡◌, ℕ, ◌≤◌, ◌<◌, Bool, false, ◌&&◌, ◌||◌, nat_le, nat_lt, Option, Some, None}
use Rattle.std.specs.List.{list_any}
use Rattle.matter_rows.specs.declared.head.Head.{Head}
use Rattle.trust_matter.specs.edit.Edit.TheVariants as edit
use Rattle.matter_rows.specs.Rows.{closed_on, is_of_nobody}
use Rattle.trust_matter.specs.Changes.{MatterChange, IsChange}
use Rattle.firm_rows.specs.Firm.{Row, HeadRow, SeatRow, EntryRow, Firm, of}
use Rattle.firm_figures.specs.Listing.{transit_list, out_list, early_list, exception_list}

-- Days whose figures a purge may have changed.

abbrev pub is_day_after : ℕ → Option ℕ → Bool
is_day_after p None = false
is_day_after p (Some day) = nat_lt p day

-- the matter was purged, and had been closed after p
abbrev pub is_head_purged_after : ℕ → Head → Bool
is_head_purged_after p head = is_of_nobody head.holder && is_day_after p head.closed

abbrev pub is_purged_after : ℕ → ℕ × Row → Bool
is_purged_after p (m, HeadRow head) = is_head_purged_after p head
is_purged_after p (m, SeatRow seat) = false
is_purged_after p (m, EntryRow number entry) = false

-- some matter that was closed after p was purged, so the records of p are no longer complete
unfoldable pub is_period_purged : ℕ → Firm → Bool
is_period_purged p firm = list_any (is_purged_after p) firm.rows

-- Days of whose clients and waiting entries a purge may have taken some. A matter moves nothing before its opening, but
-- a line of the bank may be dated before it, so the figures go by the closing alone.

-- the matter was purged, and had been open as of p: opened on or before it, and closed after it
abbrev pub is_head_purged_at : ℕ → Head → Bool
is_head_purged_at p head = nat_le head.opened p && is_head_purged_after p head

abbrev pub is_row_purged_at : ℕ → ℕ × Row → Bool
is_row_purged_at p (m, HeadRow head) = is_head_purged_at p head
is_row_purged_at p (m, SeatRow seat) = false
is_row_purged_at p (m, EntryRow number entry) = false

-- some matter that was open as of p was purged
unfoldable pub is_purged_at : ℕ → Firm → Bool
is_purged_at p firm = list_any (is_row_purged_at p) firm.rows

-- what is stored from the heads: whether one of them is of a matter that was closed after the day and purged
pub record PeriodKept : Type 0 where
  pub day : ℕ
  pub purged : Bool

abbrev pub whole_period : ℕ → PeriodKept
whole_period p = record { day = p; purged = false }

abbrev pub with_row_purged : PeriodKept → ℕ × Row → PeriodKept
with_row_purged s row = record s { purged = is_purged_after s.day row || s.purged }

-- What a purge leaves unchanged.

-- the matter was closed on or before the day
abbrev pub IsClosedBy : ℕ → Option Head → Type 0
IsClosedBy p head = (day : ℕ) × ((closed_on head ≡ Some day) × (day ≤ p))

-- the matter was opened after the day
abbrev pub IsOpenedAfter : ℕ → Option Head → Type 0
IsOpenedAfter p None = ⊥
IsOpenedAfter p (Some head) = p < head.opened

-- the change purges the matter whose rows it was decided on
pub record IsPurge (m : ℕ) (firm : Firm) (change : MatterChange) : Type 0 where
  pub fits : IsChange (of m firm) change
  pub day : ℕ
  pub clears : change.edit ≡ edit.Purge day

-- the lists that go with the figures, except that of payments with the same instrument
pub record AreListsLeft (p : ℕ) (before after : Firm) : Type 0 where
  pub transit : transit_list p after ≡ transit_list p before
  pub out : out_list p after ≡ out_list p before
  pub early : early_list p after ≡ early_list p before
  pub exceptions : exception_list p after ≡ exception_list p before
