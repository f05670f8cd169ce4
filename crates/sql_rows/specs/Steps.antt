-- What a change of the firm writes into the tables, step by step.
use Rattle.std.specs.Prelude.{◌≡◌, ℕ, ℤ, pos, List, [], ◌∷◌, ◌++◌, map, Option, Some, None, find, option_map}
use Rattle.sqlite_keyed.specs.Lists.{delete_where}
use Rattle.trust_base.specs.declared.line.Line.{Line}
use Rattle.matter_rows.specs.declared.act.Act.{Act}
use Rattle.matter_rows.specs.declared.head.Head.{Head}
use Rattle.matter_rows.specs.declared.movement.EntryMovement.{EntryMovement}
use Rattle.matter_parts.specs.declared.change.Left.{Left}
use Rattle.matter_parts.specs.declared.change.TotalsAfter.{TotalsAfter}
use Rattle.matter_parts.specs.declared.edit.Edit.{Edit}
use Rattle.matter_parts.specs.declared.edit.Edit.TheVariants as edit
use Rattle.matter_parts.specs.declared.edit.Numbered.{Numbered}
use Rattle.matter_parts.specs.Changes.{MatterChange}
use Rattle.firm_rows.specs.Firm.{joined_act, joined_movement, own_movement}
use Rattle.firm_rows.specs.FirmChange.{FirmChange, OfMatter, Repeated, Unmatched, Dismissed, OfFirm, OfBalance}
use Rattle.firm_rows.specs.FirmLines.{as_firm_line, balance_row}
use Rattle.sql_tables.specs.declared.columns.TotalsColumns.{TotalsColumns}
use Rattle.sql_tables.specs.declared.statements.SqlStatement.{SqlStatement}
use Rattle.sql_tables.specs.declared.statements.SqlStatement.TheVariants as statement
use Rattle.sql_tables.specs.Given.{head_given, seat_given, entry_given, movement_given, firm_line_given, exception_given, balance_given, act_given}
use Rattle.sql_tables.specs.Lists.{Lists}
use Rattle.sql_tables.specs.Rows as table
use Rattle.sql_rows.specs.Acts.{act_columns}
use Rattle.sql_rows.specs.Columns.{balance_columns, movement_columns, firm_line_columns, exception_columns, seat_columns}
use Rattle.sql_rows.specs.Dismissals.{dismissal_columns}
use Rattle.sql_rows.specs.Entries.{entry_columns}
use Rattle.sql_rows.specs.Heads.{head_columns, totals_columns}
use Rattle.sql_rows.specs.Meaning.{head_from}

-- A step.

-- an SQL statement that writes, with the values of its columns
pub data Step : Type 0 where
  PutHead : (head : table.Head) → Step
  SetTotals : (totals : TotalsColumns) → Step
  SetClosed : (matter day : ℤ) → Step
  SetPurged : (matter day : ℤ) → Step
  AddSeat : (seat : table.Seat) → Step
  SeatGone : (matter : ℤ) (person : List ℕ) → Step
  PutEntry : (entry : table.Entry) → Step
  SetLeft : (matter number left : ℤ) → Step
  AddMovement : (movement : table.Movement) → Step
  AddFirmLine : (line : table.FirmLine) → Step
  NoteException : (exception : table.Exception) → Step
  ExceptionGone : (exception : table.Exception) → Step
  AddBalance : (balance : table.Balance) → Step
  SeatsGone : (matter : ℤ) → Step
  EntriesGone : (matter : ℤ) → Step
  MovementsGone : (matter : ℤ) → Step
  AddAct : (act : table.Act) → Step
  ActsGone : (matter : ℤ) → Step

abbrev pub step_of : SqlStatement → Step
step_of (statement.Head h) = PutHead (head_given h)
step_of (statement.Totals t) = SetTotals t
step_of (statement.Closed c) = SetClosed c.matter c.day
step_of (statement.Purged c) = SetPurged c.matter c.day
step_of (statement.Seat s) = AddSeat (seat_given s)
step_of (statement.SeatGone s) = SeatGone s.matter s.person.now
step_of (statement.Entry e) = PutEntry (entry_given e)
step_of (statement.Left e) = SetLeft e.matter e.no e.left_now
step_of (statement.Movement m) = AddMovement (movement_given m)
step_of (statement.FirmLine f) = AddFirmLine (firm_line_given f)
step_of (statement.Exception e) = NoteException (exception_given e)
step_of (statement.ExceptionGone e) = ExceptionGone (exception_given e)
step_of (statement.Balance b) = AddBalance (balance_given b)
step_of (statement.SeatsGone m) = SeatsGone m
step_of (statement.EntriesGone m) = EntriesGone m
step_of (statement.MovementsGone m) = MovementsGone m
step_of (statement.Act x) = AddAct (act_given x)
step_of (statement.ActsGone m) = ActsGone m

-- how a step changes the lists; a table with AUTOINCREMENT gives a new row its own number
abbrev pub IsMade : Step → Lists → Lists → Type 0
IsMade (PutHead h) a b = b ≡ record a { heads = table.put_head h a.heads }
IsMade (SetTotals t) a b = b ≡ record a { heads = table.change_head t.no (table.with_totals t) a.heads }
IsMade (SetClosed m day) a b = b ≡ record a { heads = table.change_head m (table.with_closing day) a.heads }
IsMade (SetPurged m day) a b = b ≡ record a { heads = table.change_head m (table.with_purge day) a.heads }
IsMade (AddSeat s) a b = b ≡ record a { seats = table.add_seat s a.seats }
IsMade (SeatGone m p) a b = b ≡ record a { seats = delete_where (table.is_seat m p) a.seats }
IsMade (PutEntry e) a b = b ≡ record a { entries = table.put_entry e a.entries }
IsMade (SetLeft m n left) a b = b ≡ record a { entries = table.put_left m n left a.entries }
IsMade (AddMovement m) a b =
    (seq : ℤ) × (b ≡ record a { movements = a.movements ++ record m { seq = seq } ∷ [] })
IsMade (AddFirmLine f) a b =
    (seq : ℤ) × (b ≡ record a { firm_lines = a.firm_lines ++ record f { seq = seq } ∷ [] })
IsMade (NoteException e) a b = b ≡ record a { exceptions = table.note_exception e a.exceptions }
IsMade (ExceptionGone e) a b = b ≡ record a { exceptions = delete_where (table.is_exception e) a.exceptions }
IsMade (AddBalance c) a b = b ≡ record a { balances = table.add_balance c a.balances }
IsMade (SeatsGone m) a b = b ≡ record a { seats = delete_where (table.is_seat_of m) a.seats }
IsMade (EntriesGone m) a b = b ≡ record a { entries = delete_where (table.is_entry_of m) a.entries }
IsMade (MovementsGone m) a b = b ≡ record a { movements = delete_where (table.is_movement_of m) a.movements }
IsMade (AddAct x) a b =
    (seq : ℤ) × (b ≡ record a { acts = a.acts ++ record x { seq = seq } ∷ [] })
IsMade (ActsGone m) a b = b ≡ record a { acts = delete_where (table.is_act_of m) a.acts }

-- the steps, one after the other
abbrev pub AreMade : List Step → Lists → Lists → Type 0
AreMade [] a b = b ≡ a
AreMade (s ∷ steps) a b = (mid : Lists) × IsMade s a mid × AreMade steps mid b

-- The steps of a change.

-- the head of a matter, if it was opened
abbrev pub head_at : ℕ → Lists → Option Head
head_at m a = option_map head_from (find (table.is_head (pos m)) a.heads)

-- sets the last day and the totals of the existing head
abbrev pub totals_steps : ℕ → MatterChange → List Step
totals_steps m c = SetTotals (totals_columns m c.last c.moves.figures) ∷ []

-- what is written to the head
abbrev pub head_steps : ℕ → MatterChange → Edit → List Step
head_steps m c edit.Nothing = []
head_steps m c (edit.Open o) = PutHead (head_columns m o.head c.moves.figures) ∷ []
head_steps m c (edit.Seat s) = totals_steps m c
head_steps m c (edit.Unseat p) = totals_steps m c
head_steps m c (edit.Close day) = SetClosed (pos m) (pos day) ∷ totals_steps m c
head_steps m c (edit.Purge day) = SetPurged (pos m) (pos day) ∷ totals_steps m c
head_steps m c (edit.Append x) = totals_steps m c
head_steps m c (edit.Exchange x) = totals_steps m c

-- sets what is left of the named entry, if one is named
abbrev pub left_steps : ℕ → Option Left → List Step
left_steps m None = []
left_steps m (Some o) = SetLeft (pos m) (pos o.number) (pos o.left) ∷ []

-- writes the entry with what is left of it, and then what is left of the one that it names
abbrev pub entry_steps : ℕ → Numbered → TotalsAfter → List Step
entry_steps m x v = PutEntry (entry_columns m x.number v.left x.entry) ∷ left_steps m v.other

-- the movement of an entry of a matter, if it has one
abbrev pub movement_steps : ℕ → Option EntryMovement → List Step
movement_steps m v = map (λ x. AddMovement (movement_columns x)) (joined_movement m v)

-- what is written of the rows after the head: the seat, the entries and the movement; a purge deletes all of these
abbrev pub edit_steps : ℕ → MatterChange → Edit → List Step
edit_steps m c edit.Nothing = []
edit_steps m c (edit.Open o) = AddSeat (seat_columns m o.seat) ∷ []
edit_steps m c (edit.Seat s) = AddSeat (seat_columns m s) ∷ []
edit_steps m c (edit.Unseat p) = SeatGone (pos m) p ∷ []
edit_steps m c (edit.Close day) = []
edit_steps m c (edit.Purge day) = SeatsGone (pos m) ∷ EntriesGone (pos m) ∷ MovementsGone (pos m) ∷ []
edit_steps m c (edit.Append x) = entry_steps m x c.moves ++ movement_steps m c.movement
edit_steps m c (edit.Exchange x) = entry_steps m x c.moves ++ movement_steps m c.movement

-- the rows of a matter: the head first, since seats and entries refer to it
abbrev pub row_steps : ℕ → MatterChange → Edit → List Step
row_steps m c e = head_steps m c e ++ edit_steps m c e

-- the act that a change of a matter is remembered by, if it is by one
abbrev pub act_steps : ℕ → Option Act → List Step
act_steps m act = map (λ x. AddAct (act_columns x)) (joined_act m act)

-- what is written of the acts: the one of the change; a purge deletes the matter's
abbrev pub trail_steps : ℕ → Option Act → Edit → List Step
trail_steps m act edit.Nothing = []
trail_steps m act (edit.Open o) = act_steps m act
trail_steps m act (edit.Seat s) = act_steps m act
trail_steps m act (edit.Unseat p) = act_steps m act
trail_steps m act (edit.Close day) = act_steps m act
trail_steps m act (edit.Purge day) = ActsGone (pos m) ∷ []
trail_steps m act (edit.Append x) = act_steps m act
trail_steps m act (edit.Exchange x) = act_steps m act

-- a change of a matter: its rows, and then what it is remembered by; an empty change writes nothing
abbrev pub matter_steps : ℕ → MatterChange → Edit → List Step
matter_steps m c e = row_steps m c e ++ trail_steps m c.act e

-- a line that was applied or is repeated is removed from the exceptions
abbrev pub line_steps : Option Line → List Step
line_steps None = []
line_steps (Some line) = ExceptionGone (exception_columns line) ∷ []

abbrev pub steps_of : FirmChange → List Step
steps_of (OfMatter m line c) = matter_steps m c c.edit ++ line_steps line
steps_of (Repeated line) = line_steps (Some line)
steps_of (Unmatched line) = NoteException (exception_columns line) ∷ []
steps_of (Dismissed day line) =
    AddAct (dismissal_columns (record { day = day; line = line })) ∷ line_steps (Some line)
steps_of (OfFirm line) =
    AddFirmLine (firm_line_columns (as_firm_line line))
    ∷ AddMovement (movement_columns (own_movement (as_firm_line line))) ∷ line_steps (Some line)
steps_of (OfBalance kind line) = AddBalance (balance_columns (balance_row kind line)) ∷ line_steps (Some line)
