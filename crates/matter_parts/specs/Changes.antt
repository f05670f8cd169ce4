-- What a change does to a matter's rows.
use Rattle.std.specs.Prelude.{◌≡◌, false, ℕ, ◌+◌, ◌≤◌, List, [], ◌∷◌, ◌++◌, length, pos, Option, Some, None, IsSome, option_to_list}
use Rattle.matter_rows.specs.declared.head.Head.{Head}
use Rattle.matter_rows.specs.declared.seat.Seat.{Seat}
use Rattle.matter_rows.specs.declared.entry.Entry.{Entry}
use Rattle.matter_rows.specs.declared.movement.EntryMovement.{EntryMovement}
use Rattle.matter_rows.specs.declared.act.Act.{Act}
use Rattle.matter_rows.specs.Rows.{Rows, entry_at, with_entry, as_made, last_of, closed_on, is_purged, role_in, seats_with, seats_without, purged_head, closed_head, seen_on}
use Rattle.matter_rows.specs.Events.{Event, events_of, events_in, moved_beyond}
use Rattle.matter_rows.specs.Shares.{target}
use Rattle.matter_rows.specs.declared.limits.TheConstants.{MAX_TOTAL}
use Rattle.matter_rows.specs.Balances.{left_of}
use Rattle.matter_rows.specs.Sound.{Sound}
use Rattle.matter_parts.specs.declared.edit.Numbered.{Numbered}
use Rattle.matter_parts.specs.declared.edit.Edit.{Edit}
use Rattle.matter_parts.specs.declared.edit.Edit.TheVariants as edit
use Rattle.matter_parts.specs.declared.change.Left.{Left}
use Rattle.matter_parts.specs.declared.change.TotalsAfter.{TotalsAfter}
use Rattle.matter_parts.specs.Parts.{AreFigures, AreSmall}

-- a change: the edit, the matter's last day after it, the totals after it, its movement in the journal, and the act
-- that it is remembered by: None if nothing changes, and of a purge
pub record MatterChange : Type 0 where
  pub edit : Edit
  pub last : ℕ
  pub moves : TotalsAfter
  pub movement : Option EntryMovement
  pub act : Option Act

abbrev pub IsSmallOther : Option Left → Type 0
IsSmallOther o = (p : Left) → o ≡ Some p → p.left ≤ MAX_TOTAL

pub record AreSmallTotals (v : TotalsAfter) : Type 0 where
  pub figures : AreSmall v.figures
  pub left : v.left ≤ MAX_TOTAL
  pub other : IsSmallOther v.other

-- The rows after it.

abbrev pub edited : List Entry → Edit → List Entry
edited es (edit.Append x) = es ++ x.entry ∷ []
edited es (edit.Exchange x) = with_entry es x.number x.entry
edited es edit.Nothing = es
edited es (edit.Open o) = es
edited es (edit.Seat s) = es
edited es (edit.Unseat p) = es
edited es (edit.Close d) = es
edited es (edit.Purge d) = []

abbrev pub seats_after : List Seat → Edit → List Seat
seats_after seats (edit.Open o) = o.seat ∷ []
seats_after seats (edit.Seat s) = seats_with seats s
seats_after seats (edit.Unseat p) = seats_without seats p
seats_after seats edit.Nothing = seats
seats_after seats (edit.Close d) = seats
seats_after seats (edit.Purge d) = []
seats_after seats (edit.Append x) = seats
seats_after seats (edit.Exchange x) = seats

abbrev pub head_after : Option Head → Edit → ℕ → Option Head
head_after h edit.Nothing last = h
head_after h (edit.Open o) last = Some o.head
head_after h (edit.Close day) last = closed_head h day last
head_after h (edit.Purge day) last = purged_head h day last
head_after h (edit.Seat s) last = seen_on h last
head_after h (edit.Unseat p) last = seen_on h last
head_after h (edit.Append x) last = seen_on h last
head_after h (edit.Exchange x) last = seen_on h last

abbrev pub changed_by : Edit → ℕ → Rows → Rows
changed_by e last rows = record {
  head = head_after rows.head e last;
  seats = seats_after rows.seats e;
  entries = edited rows.entries e;
}

abbrev pub changed : MatterChange → Rows → Rows
changed c rows = changed_by c.edit c.last rows

-- The acts after it.

-- the matter's acts, with the one that the change is remembered by; a change of nothing adds none, and a purge leaves
-- none
abbrev pub acts_by : Edit → Option Act → List Act → List Act
acts_by edit.Nothing act acts = acts
acts_by (edit.Open o) act acts = acts ++ option_to_list act
acts_by (edit.Seat s) act acts = acts ++ option_to_list act
acts_by (edit.Unseat p) act acts = acts ++ option_to_list act
acts_by (edit.Close day) act acts = acts ++ option_to_list act
acts_by (edit.Purge day) act acts = []
acts_by (edit.Append x) act acts = acts ++ option_to_list act
acts_by (edit.Exchange x) act acts = acts ++ option_to_list act

-- Its movement.

-- the movement of an edit: the event that the written entry has and the one that it replaces had not
abbrev pub movement_of : List Entry → Edit → Option EntryMovement
movement_of es (edit.Append x) = moved_beyond x.number [] (events_of x.entry)
movement_of es (edit.Exchange x) = moved_beyond x.number (events_in (entry_at es x.number)) (events_of x.entry)
movement_of es edit.Nothing = None
movement_of es (edit.Open o) = None
movement_of es (edit.Seat s) = None
movement_of es (edit.Unseat p) = None
movement_of es (edit.Close d) = None
movement_of es (edit.Purge d) = None

abbrev pub entry_event : EntryMovement → Event
entry_event m = record { day = m.day; amount = m.amount }

abbrev pub events_by : Option EntryMovement → List Event
events_by None = []
events_by (Some m) = entry_event m ∷ []

-- the events of a written entry are those that it had before, followed by the movement of the edit
abbrev pub AreMoved : List Entry → Edit → Option EntryMovement → Type 0
AreMoved es (edit.Append x) m = events_of x.entry ≡ events_by m
AreMoved es (edit.Exchange x) m = events_of x.entry ≡ events_in (entry_at es x.number) ++ events_by m
AreMoved es edit.Nothing m = m ≡ None
AreMoved es (edit.Open o) m = m ≡ None
AreMoved es (edit.Seat s) m = m ≡ None
AreMoved es (edit.Unseat p) m = m ≡ None
AreMoved es (edit.Close d) m = m ≡ None
AreMoved es (edit.Purge d) m = m ≡ None

-- the movement of an edit, if any, is booked between the two days, inclusive
abbrev pub IsMovedWithin : ℕ → ℕ → Option EntryMovement → Type 0
IsMovedWithin from to None = Unit {0}
IsMovedWithin from to (Some v) = (from ≤ v.day) × (v.day ≤ to)

-- Its place.

-- the exchanged entry keeps its kind, its day and all that was asked for
pub record IsExchange (es : List Entry) (x : Numbered) (old : Entry) : Type 0 where
  pub there : entry_at es x.number ≡ Some old
  pub same : as_made x.entry ≡ as_made old

-- the edit fits: a matter is opened once, closed once and then purged once, a new entry has the next number, an
-- exchanged one stays what it was
abbrev pub IsPlace : Rows → Edit → Type 0
IsPlace rows edit.Nothing = Unit {0}
IsPlace rows (edit.Open o) = rows.head ≡ None
IsPlace rows (edit.Seat s) = IsSome rows.head × (role_in rows.seats s.person ≡ None)
IsPlace rows (edit.Unseat p) = IsSome rows.head × IsSome (role_in rows.seats p)
IsPlace rows (edit.Close day) = IsSome rows.head × (closed_on rows.head ≡ None)
IsPlace rows (edit.Purge day) = IsSome (closed_on rows.head) × (is_purged rows.head ≡ false)
IsPlace rows (edit.Append x) = IsSome rows.head × (x.number ≡ length rows.entries + 1)
IsPlace rows (edit.Exchange x) = IsSome rows.head × ((old : Entry) × IsExchange rows.entries x old)

-- What is left after the edit.

-- what is left of the named entry, number t, if one is named
abbrev pub IsOther : List Entry → ℕ → Option Left → Type 0
IsOther es t None = t ≡ 0
IsOther es t (Some o) = (o.number ≡ t) × ((e : Entry) → entry_at es t ≡ Some e → pos o.left ≡ left_of es t e)

-- what is left of the written entry, and of the one that it names
abbrev pub AreLeft : List Entry → Numbered → TotalsAfter → Type 0
AreLeft fs x v = (pos v.left ≡ left_of fs x.number x.entry) × IsOther fs (target x.entry) v.other

-- no entry is written, so nothing is left of one
pub record NoneLeft (v : TotalsAfter) : Type 0 where
  pub left : v.left ≡ 0
  pub other : v.other ≡ None

abbrev pub AreLefts : List Entry → Edit → TotalsAfter → Type 0
AreLefts fs (edit.Append x) v = AreLeft fs x v
AreLefts fs (edit.Exchange x) v = AreLeft fs x v
AreLefts fs edit.Nothing v = NoneLeft v
AreLefts fs (edit.Open o) v = NoneLeft v
AreLefts fs (edit.Seat s) v = NoneLeft v
AreLefts fs (edit.Unseat p) v = NoneLeft v
AreLefts fs (edit.Close d) v = NoneLeft v
AreLefts fs (edit.Purge d) v = NoneLeft v

-- a change of these rows: it fits, leaves them sound, and carries their own totals and movement; its movement is not
-- before the matter's last day, nor after the last day that it leaves
pub record IsChange (rows : Rows) (c : MatterChange) : Type 0 where
  pub place : IsPlace rows c.edit
  pub sound : Sound (changed c rows)
  pub not_before : last_of rows.head ≤ c.last
  pub seen : last_of (changed c rows).head ≡ c.last
  pub movement : c.movement ≡ movement_of rows.entries c.edit
  pub moved : AreMoved rows.entries c.edit c.movement
  pub figures : AreFigures c.moves.figures (edited rows.entries c.edit)
  pub lefts : AreLefts (edited rows.entries c.edit) c.edit c.moves
  pub dated : IsMovedWithin (last_of rows.head) c.last c.movement

-- the last day after an edit that was asked for
abbrev pub last_after : Option Head → Edit → ℕ → ℕ
last_after None e day = day
last_after (Some h) edit.Nothing day = h.last
last_after (Some h) (edit.Open o) day = day
last_after (Some h) (edit.Seat s) day = day
last_after (Some h) (edit.Unseat p) day = day
last_after (Some h) (edit.Close d) day = day
last_after (Some h) (edit.Purge d) day = day
last_after (Some h) (edit.Append x) day = day
last_after (Some h) (edit.Exchange x) day = day
