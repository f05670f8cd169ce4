-- What a firm's movements say about a matter and an entry.
use Rattle.std.specs.Prelude.{ℕ, Bool, true, false, cond, ◌==◌, ◌&&◌, List, map, ℤ, pos, ◌+ℤ◌}
use Rattle.std.specs.List.{filter}
use Rattle.trust_matter.specs.entry.Entry.{Entry}
use Rattle.trust_matter.specs.Shares.{total_share, held_share}
use Rattle.trust_matter.specs.Events.{Event}
use Rattle.firm_rows.specs.declared.movement.Movement.{Movement}
use Rattle.firm_rows.specs.declared.movement.Owner.{Owner}
use Rattle.firm_rows.specs.declared.movement.Owner.TheVariants as owner
use Rattle.firm_rows.specs.declared.ledger.FirmLine.{FirmLine}
use Rattle.firm_rows.specs.Sums.{sum_of}
use Rattle.firm_rows.specs.Firm.{Row, HeadRow, SeatRow, EntryRow, Firm, is_of_matter}

-- a movement's day and amount
abbrev pub event_of : Movement → Event
event_of v = record { day = v.day; amount = v.amount }

-- Whose movement it is.

abbrev pub is_of_entry : ℕ → ℕ → Owner → Bool
is_of_entry m n (owner.Matter k j) = k == m && j == n
is_of_entry m n owner.Firm = false

abbrev pub is_of_firm : Owner → Bool
is_of_firm (owner.Matter k j) = false
is_of_firm owner.Firm = true

-- the movements of entry n of matter m, in order
abbrev pub events_moved : ℕ → ℕ → List Movement → List Event
events_moved m n movements = map event_of (filter (λ v. is_of_entry m n v.owner) movements)

-- the days of a matter's movements, in order
abbrev pub days_moved : ℕ → List Movement → List ℕ
days_moved m movements = map (λ v. v.day) (filter (λ v. is_of_matter m v.owner) movements)

-- what a line of the firm's own ledger moved
abbrev pub line_event : FirmLine → Event
line_event l = record { day = l.date; amount = l.amount }

-- the movements of the firm's own money, in order
abbrev pub firm_events : List Movement → List Event
firm_events movements = map event_of (filter (λ v. is_of_firm v.owner) movements)

-- Sums.

-- what a movement adds to a matter
abbrev pub amount_for : ℕ → Movement → ℤ
amount_for m v = cond (is_of_matter m v.owner) v.amount (pos 0)

-- the sum of a matter's movements
abbrev pub moved_for : ℕ → List Movement → ℤ
moved_for m movements = sum_of (amount_for m) movements

-- what an entry adds to the ledger of its matter
abbrev pub ledger_share : Entry → ℤ
ledger_share e = total_share e +ℤ held_share e

-- what a row adds to the ledger of its matter: for an entry, what was received less what was paid
abbrev pub row_share : Row → ℤ
row_share (HeadRow head) = pos 0
row_share (SeatRow seat) = pos 0
row_share (EntryRow number entry) = ledger_share entry

-- the sum of all matters' ledgers, over the joined rows
abbrev pub ledger_sum : Firm → ℤ
ledger_sum firm = sum_of (λ p. row_share p.1) firm.rows

-- the sum of all movements
abbrev pub journal_sum : List Movement → ℤ
journal_sum movements = sum_of (λ v. v.amount) movements
