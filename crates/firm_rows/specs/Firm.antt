-- The rows of a firm: a joined list of the rows of all matters, each paired with its matter; the movements; the lines
-- of the firm's own ledger; the bank lines that match nothing; the balances that the bank reported; the acts; and the
-- dismissals.
use Rattle.std.specs.Prelude.{ℕ, Bool, false, ◌+◌, ◌==◌, nat_lt, List, [], ◌∷◌, ◌++◌, map, not, Option, Some, None}
use Rattle.std.specs.List.{filter}
use Rattle.trust_base.specs.LineOrder.{is_before, is_same_line}
use Rattle.trust_base.specs.declared.line.Line.{Line}
use Rattle.matter_rows.specs.declared.act.Act.{Act}
use Rattle.trust_matter.specs.head.Head.{Head}
use Rattle.trust_matter.specs.seat.Seat.{Seat}
use Rattle.trust_matter.specs.entry.Entry.{Entry}
use Rattle.trust_matter.specs.edit.Edit.{Edit}
use Rattle.trust_matter.specs.edit.Edit.TheVariants as edit
use Rattle.trust_matter.specs.movement.EntryMovement as change
use Rattle.trust_matter.specs.Rows.{Rows}
use Rattle.trust_matter.specs.Changes.{MatterChange, changed_by, movement_of}
use Rattle.firm_rows.specs.declared.dismissal.Dismissal.{Dismissal}
use Rattle.firm_rows.specs.declared.matter_act.MatterAct.{MatterAct}
use Rattle.firm_rows.specs.declared.movement.Movement.{Movement}
use Rattle.firm_rows.specs.declared.movement.Owner.{Owner}
use Rattle.firm_rows.specs.declared.movement.Owner.TheVariants as owner
use Rattle.firm_rows.specs.declared.ledger.FirmLine.{FirmLine}
use Rattle.firm_rows.specs.declared.ledger.BalanceRow.{BalanceRow}
use Rattle.firm_rows.specs.declared.sink.MatterRow.{MatterRow}
use Rattle.firm_rows.specs.declared.sink.MatterRow.TheVariants as given
use Rattle.firm_rows.specs.FirmLines.{with_balance}

-- a row of some matter
pub data Row : Type 0 where
  HeadRow : (head : Head) → Row
  SeatRow : (seat : Seat) → Row
  EntryRow : (number : ℕ) (entry : Entry) → Row

-- the row that a sink receives
abbrev pub row_of : MatterRow → Row
row_of (given.Head head) = HeadRow head.now
row_of (given.Seat seat) = SeatRow seat.now
row_of (given.Entry number entry) = EntryRow number entry.now

-- the rows of all matters, each with its matter's number; the movements and the lines of the firm's own ledger, both in
-- the order of acceptance; the exceptions, a sorted set of whole lines; the balances, openings before closings, each by
-- day; and the acts and the dismissals, each in the order of acceptance
pub record Firm : Type 0 where
  pub rows : List (ℕ × Row)
  pub movements : List Movement
  pub firm_lines : List FirmLine
  pub exceptions : List Line
  pub balances : List BalanceRow
  pub acts : List MatterAct
  pub dismissals : List Dismissal

-- a firm without rows
abbrev pub empty_firm : Firm
empty_firm = record {
  rows = [];
  movements = [];
  firm_lines = [];
  exceptions = [];
  balances = [];
  acts = [];
  dismissals = [];
}

-- A matter's own rows.

-- the rows of one matter among the joined ones
abbrev pub rows_of : ℕ → List (ℕ × Row) → List Row
rows_of m joined = map (λ p. p.1) (filter (λ p. p.0 == m) joined)

-- the head, the seats and the entries among the rows of a matter
abbrev pub head_among : List Row → Option Head
head_among [] = None
head_among (HeadRow head ∷ rows) = Some head
head_among (SeatRow seat ∷ rows) = head_among rows
head_among (EntryRow number entry ∷ rows) = head_among rows

abbrev pub seats_among : List Row → List Seat
seats_among [] = []
seats_among (HeadRow head ∷ rows) = seats_among rows
seats_among (SeatRow seat ∷ rows) = seat ∷ seats_among rows
seats_among (EntryRow number entry ∷ rows) = seats_among rows

abbrev pub entries_among : List Row → List Entry
entries_among [] = []
entries_among (HeadRow head ∷ rows) = entries_among rows
entries_among (SeatRow seat ∷ rows) = entries_among rows
entries_among (EntryRow number entry ∷ rows) = entry ∷ entries_among rows

abbrev pub among : List Row → Rows
among rows = record { head = head_among rows; seats = seats_among rows; entries = entries_among rows }

-- the rows of matter m
abbrev pub of : ℕ → Firm → Rows
of m firm = among (rows_of m firm.rows)

-- The matters.

-- the numbers of the heads, in the order of the rows
abbrev pub headed : List (ℕ × Row) → List ℕ
headed [] = []
headed ((m, HeadRow head) ∷ joined) = m ∷ headed joined
headed ((m, SeatRow seat) ∷ joined) = headed joined
headed ((m, EntryRow number entry) ∷ joined) = headed joined

-- the matters that were opened, also those that were purged since
abbrev pub opened_matters : Firm → List ℕ
opened_matters firm = headed firm.rows

-- Replacing the rows of a matter.

abbrev pub head_pairs : ℕ → Option Head → List (ℕ × Row)
head_pairs m None = []
head_pairs m (Some head) = (m, HeadRow head) ∷ []

abbrev pub seat_pairs : ℕ → List Seat → List (ℕ × Row)
seat_pairs m [] = []
seat_pairs m (seat ∷ seats) = (m, SeatRow seat) ∷ seat_pairs m seats

-- entries paired with their matter and their numbers, counted from `number`
abbrev pub entry_pairs : ℕ → ℕ → List Entry → List (ℕ × Row)
entry_pairs m number [] = []
entry_pairs m number (entry ∷ entries) = (m, EntryRow number entry) ∷ entry_pairs m (number + 1) entries

-- a matter's rows in order: the head, the seats, the entries by number, each paired with the matter
abbrev pub pairs : ℕ → Rows → List (ℕ × Row)
pairs m rows = head_pairs m rows.head ++ (seat_pairs m rows.seats ++ entry_pairs m 1 rows.entries)

-- the joined rows with the rows of one matter replaced, and those of all others unchanged
abbrev pub put : ℕ → Rows → List (ℕ × Row) → List (ℕ × Row)
put m rows joined = filter (λ p. nat_lt p.0 m) joined ++ (pairs m rows ++ filter (λ p. nat_lt m p.0) joined)

-- A change of a matter.

-- what an entry of a matter moves, as items of the firm's list
abbrev pub joined_movement : ℕ → Option change.EntryMovement → List Movement
joined_movement m None = []
joined_movement m (Some v) = record { owner = owner.Matter m v.entry; day = v.day; amount = v.amount } ∷ []

-- what an edit of a matter's rows moves
abbrev pub moved_by : ℕ → Edit → Rows → List Movement
moved_by m e rows = joined_movement m (movement_of rows.entries e)

-- the movement belongs to this matter
abbrev pub is_of_matter : ℕ → Owner → Bool
is_of_matter m (owner.Matter k j) = k == m
is_of_matter m owner.Firm = false

-- the movements without those of one matter
abbrev pub moved_without : ℕ → List Movement → List Movement
moved_without m movements = filter (λ v. not (is_of_matter m v.owner)) movements

-- the movements left after an edit of a matter: without its own if it is purged, otherwise all
abbrev pub kept_movements : ℕ → Edit → List Movement → List Movement
kept_movements m edit.Nothing movements = movements
kept_movements m (edit.Open opening) movements = movements
kept_movements m (edit.Seat seat) movements = movements
kept_movements m (edit.Unseat person) movements = movements
kept_movements m (edit.Close day) movements = movements
kept_movements m (edit.Purge day) movements = moved_without m movements
kept_movements m (edit.Append entry) movements = movements
kept_movements m (edit.Exchange entry) movements = movements

-- the firm with a matter's rows replaced and its movements removed
abbrev pub purged_by : ℕ → Rows → Firm → Firm
purged_by m rows firm = record firm { rows = put m rows firm.rows; movements = moved_without m firm.movements }

-- the firm after an edit of a matter, with the matter's new last day and what the edit moves
abbrev pub rewritten_by : ℕ → Edit → ℕ → Firm → Firm
rewritten_by m e last firm = record firm {
  rows = put m (changed_by e last (of m firm)) firm.rows;
  movements = firm.movements ++ moved_by m e (of m firm);
}

-- the firm after an edit of a matter; editing nothing changes nothing
abbrev pub after_edit : ℕ → Edit → ℕ → Firm → Firm
after_edit m edit.Nothing last firm = firm
after_edit m (edit.Open opening) last firm = rewritten_by m (edit.Open opening) last firm
after_edit m (edit.Seat seat) last firm = rewritten_by m (edit.Seat seat) last firm
after_edit m (edit.Unseat person) last firm = rewritten_by m (edit.Unseat person) last firm
after_edit m (edit.Close day) last firm = rewritten_by m (edit.Close day) last firm
after_edit m (edit.Purge day) last firm = purged_by m (changed_by (edit.Purge day) last (of m firm)) firm
after_edit m (edit.Append entry) last firm = rewritten_by m (edit.Append entry) last firm
after_edit m (edit.Exchange entry) last firm = rewritten_by m (edit.Exchange entry) last firm

-- The acts.

-- the acts of one matter, in the order of acceptance
abbrev pub acts_of : ℕ → Firm → List Act
acts_of m firm = map (λ a. a.act) (filter (λ a. a.matter == m) firm.acts)

-- what a change of a matter is remembered by, as items of the firm's list
abbrev pub joined_act : ℕ → Option Act → List MatterAct
joined_act m None = []
joined_act m (Some act) = record { matter = m; act = act } ∷ []

-- the acts without those of one matter
abbrev pub acts_without : ℕ → List MatterAct → List MatterAct
acts_without m acts = filter (λ a. not (a.matter == m)) acts

-- the acts left after an edit of a matter: without its own if it is purged, otherwise all
abbrev pub acts_left : ℕ → Edit → List MatterAct → List MatterAct
acts_left m edit.Nothing acts = acts
acts_left m (edit.Open opening) acts = acts
acts_left m (edit.Seat seat) acts = acts
acts_left m (edit.Unseat person) acts = acts
acts_left m (edit.Close day) acts = acts
acts_left m (edit.Purge day) acts = acts_without m acts
acts_left m (edit.Append entry) acts = acts
acts_left m (edit.Exchange entry) acts = acts

-- the acts after a change of a matter: with the one that it is remembered by, or, if it is purged, without its own
abbrev pub joined_acts : ℕ → Edit → Option Act → List MatterAct → List MatterAct
joined_acts m edit.Nothing act acts = acts
joined_acts m (edit.Open opening) act acts = acts ++ joined_act m act
joined_acts m (edit.Seat seat) act acts = acts ++ joined_act m act
joined_acts m (edit.Unseat person) act acts = acts ++ joined_act m act
joined_acts m (edit.Close day) act acts = acts ++ joined_act m act
joined_acts m (edit.Purge day) act acts = acts_without m acts
joined_acts m (edit.Append entry) act acts = acts ++ joined_act m act
joined_acts m (edit.Exchange entry) act acts = acts ++ joined_act m act

-- the firm with other acts
abbrev pub with_acts : List MatterAct → Firm → Firm
with_acts acts firm = record firm { acts = acts }

-- the firm with the acts after a change of a matter
abbrev pub acted : ℕ → Edit → Option Act → Firm → Firm
acted m e act firm = with_acts (joined_acts m e act firm.acts) firm

-- the firm after a change of a matter, with the act that the change is remembered by
abbrev pub after_change : ℕ → MatterChange → Firm → Firm
after_change m change firm = acted m change.edit change.act (after_edit m change.edit change.last firm)

-- A bank line.

-- the lines with one more, inserted in order
abbrev pub with_line : Line → List Line → List Line
with_line line lines = filter (λ x. is_before x line) lines ++ (line ∷ filter (λ x. is_before line x) lines)

-- the lines without this one
abbrev pub without_line : Line → List Line → List Line
without_line line lines = filter (λ x. not (is_same_line x line)) lines

-- the firm with one more exception
abbrev pub after_stray : Line → Firm → Firm
after_stray line firm = record firm { exceptions = with_line line firm.exceptions }

-- the firm without this exception, if it was one
abbrev pub after_match : Line → Firm → Firm
after_match line firm = record firm { exceptions = without_line line firm.exceptions }

-- A dismissal.

-- the firm with other dismissals
abbrev pub with_dismissals : List Dismissal → Firm → Firm
with_dismissals dismissals firm = record firm { dismissals = dismissals }

-- the firm with another trail: other acts, and other dismissals
abbrev pub with_trail : List MatterAct → List Dismissal → Firm → Firm
with_trail acts dismissals firm = with_dismissals dismissals (with_acts acts firm)

-- the firm with one more dismissal, behind the others
abbrev pub with_dismissal : Dismissal → Firm → Firm
with_dismissal d firm = with_dismissals (firm.dismissals ++ d ∷ []) firm

-- the firm without this exception, which was dismissed on this day
abbrev pub after_dismissal : ℕ → Line → Firm → Firm
after_dismissal day line firm = after_match line (with_dismissal (record { day = day; line = line }) firm)

-- A line of the firm's own ledger.

-- what a line of the firm's own moves
abbrev pub own_movement : FirmLine → Movement
own_movement l = record { owner = owner.Firm; day = l.date; amount = l.amount }

-- the firm with one more line of its own, and with what it moves
abbrev pub with_firm_line : FirmLine → Firm → Firm
with_firm_line l firm =
    record firm { firm_lines = firm.firm_lines ++ l ∷ []; movements = firm.movements ++ own_movement l ∷ [] }

-- A balance that the bank reported.

-- the firm with one more balance
abbrev pub with_balance_row : BalanceRow → Firm → Firm
with_balance_row row firm = record firm { balances = with_balance row firm.balances }
