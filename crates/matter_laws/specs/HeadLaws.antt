-- Laws about the head and the seats after an accepted ask.
use Rattle.std.specs.Prelude.{◌≡◌, ℕ, true, false, List, [], ◌∷◌, ◌++◌, Some, None}
use Rattle.matter_rows.specs.declared.seat.Role.TheVariants as role
use Rattle.matter_rows.specs.declared.head.Holder.TheVariants as holder
use Rattle.matter_rows.specs.declared.head.Head.{Head}
use Rattle.matter_rows.specs.declared.seat.Seat.{Seat}
use Rattle.matter_rows.specs.Rows.{Rows, last_of, seen_on}
use Rattle.matter_rows.specs.Sound.{Sound}
use Rattle.matter_rows.specs.declared.act.Caller.{Caller}
use Rattle.matter_parts.specs.Purging.{stub_rows}
use Rattle.trust_matter.specs.declared.ask.OpenAsk.{OpenAsk}
use Rattle.trust_matter.specs.declared.ask.Ask.{Ask}
use Rattle.trust_matter.specs.declared.ask.Ask.TheVariants as ask
use Rattle.trust_matter.specs.Conditions.{is_changing, is_repeat}
use Rattle.trust_matter.specs.Facts.{Asked, facts_of}
use Rattle.trust_matter.specs.Step.{refusal, rows_after}

-- if sound rows accept the ask on a day, P holds for the day, the rows before and the rows after
abbrev pub OnceAccepted : Ask → (ℕ → Rows → Rows → Type 0) → Type 0
OnceAccepted q P =
    (rows : Rows) (who : Caller) (day : ℕ) →
    let a : Asked = record { caller = who; ask = q; day = day } in
    Sound rows → refusal rows a ≡ None → P day rows (rows_after rows a)

-- the matter was opened for the client on the day, is not closed, and its only seat is the lawyer's
pub record IsOpened (o : OpenAsk) (day : ℕ) (after : Rows) : Type 0 where
  pub head : after.head ≡ Some (record { holder = holder.Client o.client; opened = day; closed = None; last = day })
  pub seats : after.seats ≡ record { person = o.lawyer; role = role.Lawyer } ∷ []
  pub entries : after.entries ≡ []

abbrev pub OpeningOpens : Type 0
OpeningOpens = (o : OpenAsk) → OnceAccepted (ask.OpenMatter o) (λ day rows after. IsOpened o day after)

-- the head says that the matter was closed on the day, and nothing else changed
pub record IsClosed (day : ℕ) (rows after : Rows) : Type 0 where
  pub was : Head
  pub head : rows.head ≡ Some was
  pub closed : after.head ≡ Some (record was { closed = Some day; last = day })
  pub seats : after.seats ≡ rows.seats
  pub entries : after.entries ≡ rows.entries

abbrev pub ClosingCloses : Type 0
ClosingCloses = OnceAccepted ask.CloseMatter IsClosed

-- the seats are as before, with one more among them
pub record HasOneMore (seats : List Seat) (new : Seat) (after : List Seat) : Type 0 where
  pub before : List Seat
  pub behind : List Seat
  pub were : seats ≡ before ++ behind
  pub are : after ≡ before ++ new ∷ behind

-- the seat was added, and nothing else changed
pub record IsSeated (new : Seat) (day : ℕ) (rows after : Rows) : Type 0 where
  pub head : after.head ≡ seen_on rows.head day
  pub seats : HasOneMore rows.seats new after.seats
  pub entries : after.entries ≡ rows.entries

abbrev pub SeatIsAdded : Type 0
SeatIsAdded = (new : Seat) → OnceAccepted (ask.AddSeat new) (IsSeated new)

-- the person's seat was removed, and nothing else changed
pub record IsUnseated (person : List ℕ) (day : ℕ) (rows after : Rows) : Type 0 where
  pub head : after.head ≡ seen_on rows.head day
  pub seat : Seat
  pub own : seat.person ≡ person
  pub seats : HasOneMore after.seats seat rows.seats
  pub entries : after.entries ≡ rows.entries

abbrev pub SeatIsDropped : Type 0
SeatIsDropped = (person : List ℕ) → OnceAccepted (ask.DropSeat person) (IsUnseated person)

-- only the stub of a purged matter is left
abbrev pub PurgingPurges : Type 0
PurgingPurges = OnceAccepted ask.Purge (λ day rows after. after ≡ stub_rows day rows)

-- after an accepted change that is no repeat, its day is the matter's last day
abbrev pub DayIsLast : Type 0
DayIsLast =
    (rows : Rows) (a : Asked) → Sound rows → refusal rows a ≡ None → is_changing a.ask ≡ true
    → is_repeat (facts_of rows a.ask) a ≡ false → last_of (rows_after rows a).head ≡ a.day

-- an ask under a rule that changes nothing leaves the rows as they are
abbrev pub ReadsChangeNothing : Type 0
ReadsChangeNothing = (rows : Rows) (a : Asked) → is_changing a.ask ≡ false → rows_after rows a ≡ rows
