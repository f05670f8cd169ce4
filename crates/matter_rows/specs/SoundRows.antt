-- Sound rows, entry by entry: what is true of each on its own and with those that it names, of the head, and of what is
-- left.
use Rattle.std.specs.Prelude.{◌≡◌, ℕ, ◌≤◌, true, List, [], map, Option, Some, None}
use Rattle.std.specs.List.{AllByRecursion}
use Rattle.matter_rows.specs.declared.head.Head.{Head}
use Rattle.matter_rows.specs.declared.seat.Seat.{Seat}
use Rattle.matter_rows.specs.declared.entry.Entry.{Entry}
use Rattle.matter_rows.specs.Rows.{book_day}
use Rattle.matter_rows.specs.Balances.{names}
use Rattle.matter_rows.specs.Sound.{IsRanged, IsBy, IsRising, AreRising, IsFundedInTime, IsBare}

abbrev pub IsByIfClosed : Option ℕ → Entry → Type 0
IsByIfClosed None e = Unit {0}
IsByIfClosed (Some day) e = IsBy day e

-- the amount is in range, what the entry names exists, its days are in order and within the matter's, and a payment
-- from a claim is not before the day the claim was settled
pub record IsSoundEntry (h : Head) (es : List Entry) (e : Entry) : Type 0 where
  pub ranged : IsRanged e
  pub named : names es e ≡ true
  pub by_last : IsBy h.last e
  pub by_close : IsByIfClosed h.closed e
  pub rising : IsRising e
  pub funded : IsFundedInTime es e

-- a matter is closed on or after its opening and by its last day
abbrev pub IsClosedWithin : ℕ → ℕ → Option ℕ → Type 0
IsClosedWithin opened last None = Unit {0}
IsClosedWithin opened last (Some day) = (opened ≤ day) × (day ≤ last)

pub record IsSoundHead (h : Head) (es : List Entry) : Type 0 where
  pub opened : h.opened ≤ h.last
  pub closed : IsClosedWithin h.opened h.last h.closed
  pub made : AreRising h.opened (map book_day es)
  pub entries : AllByRecursion (IsSoundEntry h es) es

-- without a head there are no seats and no entries; a purged matter has none either
abbrev pub AreInForm : Option Head → List Seat → List Entry → Type 0
AreInForm None seats es = (seats ≡ []) × (es ≡ [])
AreInForm (Some h) seats es = IsSoundHead h es × IsBare h.holder h.closed h.last seats es
