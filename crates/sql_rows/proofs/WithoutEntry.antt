-- What the steps of a change of a matter make that writes no entry: one of the head and the seats, or a purge.
use Rattle.sql_rows.proofs.Names.{◌≡◌, ℕ, pos, ◌≤◌, List, [], ◌++◌, map, Option, Some, None, refl, sym, ap, subst, ◌∙◌, append-nil, AllByRecursion, IsKeyedBy, delete_where, Head, Seat, Entry, EntryMovement, Rows, role_in, seats_with, seats_without, Sound, IsHeaded, Edit, IsWhole, MatterChange, IsChange, IsPlace, changed, edited, head_after, seats_after, movement_of, of, kept_movements, joined_movement, moved_without, rows_in, seats_of, entries_of, is_seat, is_seat_of, is_entry_of, is_movement_of, add_seat, Lists, seat_columns, head_columns, AreKeyed, AreMeant, AreWritten, IsWrittenSeat, IsWrittenEntry, IsWrittenMovement, firm_from, matters_from, part_from, head_from, seat_from, kept_from, movement_from, IsTypedEdit, AreMade, edit_steps, row_steps, all-filter, arith, ints, nat_tests}
use Rattle.matter_parts.specs.declared.edit.Edit.TheVariants as edit
use Rattle.sql_tables.specs.Rows as table
use Rattle.sql_rows.proofs.Becomes.{AreEntries, ArePlaced, part_at, whole_at, sound_in, change_at, whole_entries, whole_after, no_entries, with_matter, AreRowsMade, matter_done}
use Rattle.sql_rows.proofs.EntryWritten.{kept_gone, placed_gone}
use Rattle.sql_rows.proofs.HeadFirst.{head_first}
use Rattle.sql_rows.proofs.Heads.{head_back}
use Rattle.sql_rows.proofs.Movements.{movements_gone}
use Rattle.sql_rows.proofs.Placed.{EntriesPlaced, SeatsPlaced, placed_same}
use Rattle.sql_rows.proofs.Seats as seats

-- What is written.

-- the head is written, and no entry
abbrev pub WritesNoEntry : Edit → Type 0
WritesNoEntry edit.Nothing = ⊥
WritesNoEntry (edit.Append x) = ⊥
WritesNoEntry (edit.Exchange x) = ⊥
WritesNoEntry _ = Unit {0}

-- the rows behind the head after such a change
abbrev seats_by : ℕ → Edit → List table.Seat → List table.Seat
seats_by m (edit.Open o) ss = add_seat (seat_columns m o.seat) ss
seats_by m (edit.Seat s) ss = add_seat (seat_columns m s) ss
seats_by m (edit.Unseat p) ss = delete_where (is_seat (pos m) p) ss
seats_by m (edit.Purge day) ss = delete_where (is_seat_of (pos m)) ss
seats_by m _ ss = ss

abbrev entries_by : ℕ → Edit → List table.Entry → List table.Entry
entries_by m (edit.Purge day) es = delete_where (is_entry_of (pos m)) es
entries_by m _ es = es

abbrev movements_by : ℕ → Edit → List table.Movement → List table.Movement
movements_by m (edit.Purge day) ms = delete_where (is_movement_of (pos m)) ms
movements_by m _ ms = ms

abbrev with_rest : ℕ → Edit → Lists → Lists
with_rest m e l = record l {
  seats = seats_by m e l.seats;
  entries = entries_by m e l.entries;
  movements = movements_by m e l.movements;
}

-- the steps behind the head make these
rest_made : (m : ℕ) (c : MatterChange) (e : Edit) (l b : Lists) → WritesNoEntry e → AreMade (edit_steps m c e) l b
    → b ≡ with_rest m e l
rest_made m c e l b w made = grind (arith, ints, nat_tests, delete_where, is_movement_of, is_entry_of)

-- What the rows stand for.

-- a matter that was not opened has no seat
unopened_seats : (h : Option Head) (ss : List Seat) (es : List Entry) → h ≡ None → IsHeaded h ss es → ss ≡ []
unopened_seats h ss es none headed = grind (arith, ints, nat_tests)

seats_shown : (m : ℕ) (e : Edit) (ss : List table.Seat) (rows : Rows) → WritesNoEntry e → IsKeyedBy seats.key ss
    → map seat_from (seats_of (pos m) ss) ≡ rows.seats → Sound rows → IsPlace rows e
    → map seat_from (seats_of (pos m) (seats_by m e ss)) ≡ seats_after rows.seats e
seats_shown m (edit.Open o) ss rows w up same sound place =
    let none : map seat_from (seats_of (pos m) ss) ≡ [] =
    same ∙ unopened_seats rows.head rows.seats rows.entries place sound.headed in
    seats.seats_added m o.seat ss up (subst (λ l. role_in l o.seat.person ≡ None) (sym none) refl)
    ∙ ap (λ l. seats_with l o.seat) none
seats_shown m (edit.Seat s) ss rows w up same sound place =
    seats.seats_added m s ss up (subst (λ l. role_in l s.person ≡ None) (sym same) place.1)
    ∙ ap (λ l. seats_with l s) same
seats_shown m (edit.Unseat p) ss rows w up same sound place =
    seats.seats_left m p ss up ∙ ap (λ l. seats_without l p) same
seats_shown m (edit.Close day) ss rows w up same sound place = same
seats_shown m (edit.Purge day) ss rows w up same sound place = ap (map seat_from) (seats.seats_gone (pos m) ss)
seats_shown m _ ss rows w up same sound place = absurd w

entries_shown : (m : ℕ) (e : Edit) (es : List table.Entry) (rows : Rows) → WritesNoEntry e
    → AreEntries (map kept_from (entries_of (pos m) es)) rows.entries
    → AreEntries (map kept_from (entries_of (pos m) (entries_by m e es))) (edited rows.entries e)
entries_shown m e es rows w are = grind (arith, ints, nat_tests, kept_gone, no_entries)

none_moved : (m : ℕ) (x : Option EntryMovement) (ms : List table.Movement) → x ≡ None
    → map movement_from ms ≡ map movement_from ms ++ joined_movement m x
none_moved m x ms none = grind (arith, ints, nat_tests, map, movement_from, joined_movement, append-nil)

movements_shown : (m : ℕ) (e : Edit) (x : Option EntryMovement) (rows : Rows) (ms : List table.Movement)
    → WritesNoEntry e → 1 ≤ m → AllByRecursion IsWrittenMovement ms → x ≡ movement_of rows.entries e
    → map movement_from (movements_by m e ms) ≡ kept_movements m e (map movement_from ms ++ joined_movement m x)
movements_shown m e x rows ms w one all none = grind (arith, ints, nat_tests, movements_gone, moved_without, none_moved)

-- Where the rows are.

seats_placed : (m : ℕ) (e : Edit) (ss : List table.Seat) → AllByRecursion IsWrittenSeat ss
    → SeatsPlaced m ss (seats_by m e ss)
seats_placed m (edit.Open o) ss written = seats.placed_seat_added m o.seat ss written
seats_placed m (edit.Seat s) ss written = seats.placed_seat_added m s ss written
seats_placed m (edit.Unseat p) ss written = seats.placed_seat_left m p ss written
seats_placed m (edit.Purge day) ss written = seats.placed_seats_gone m ss written
seats_placed m _ ss written = placed_same (λ (s : table.Seat). s.matter) table.seat_cmp IsWrittenSeat m ss written

entries_placed : (m : ℕ) (e : Edit) (es : List table.Entry) → AllByRecursion IsWrittenEntry es
    → EntriesPlaced m es (entries_by m e es)
entries_placed m (edit.Purge day) es written = placed_gone m es written
entries_placed m _ es written = placed_same (λ (x : table.Entry). x.matter) table.entry_cmp IsWrittenEntry m es written

movements_written : (m : ℕ) (e : Edit) (ms : List table.Movement) → AllByRecursion IsWrittenMovement ms
    → AllByRecursion IsWrittenMovement (movements_by m e ms)
movements_written m e ms written = grind (arith, ints, nat_tests, all-filter)

placed_by : (m : ℕ) (e : Edit) (a : Lists) → AreWritten a
    → ArePlaced m a (seats_by m e a.seats) (entries_by m e a.entries) (movements_by m e a.movements)
placed_by m e a written = grind (arith, ints, nat_tests, seats_placed, entries_placed, movements_written)

-- The change.

-- so its steps make what it says
pub without_entry_made : (m : ℕ) (c : MatterChange) (a b : Lists) → WritesNoEntry c.edit → 1 ≤ m → AreKeyed a
    → AreMeant a → IsTypedEdit c.edit → IsChange (of m (firm_from a)) c → AreMade (row_steps m c c.edit) a b
    → AreRowsMade m c a b
without_entry_made m c a b w one keyed meant typed may made =
    let e = c.edit in
    let rows = rows_in m (matters_from a) in
    let here = change_at a m c meant may in
    let old : IsWhole (part_at m a) rows = whole_at a m keyed.heads meant in
    let some : c.edit ≡ edit.Nothing → ⊥ = λ none. subst WritesNoEntry none w in
    let first = head_first m c a b keyed.heads meant here some typed made in
    let new = head_columns m first.h c.moves.figures in
    let end = with_matter a new (seats_by m e a.seats) (entries_by m e a.entries) (movements_by m e a.movements) in
    let same : b ≡ end = rest_made m c e (record a { heads = table.put_head new a.heads }) b w first.rest in
    let head : Some (head_from new) ≡ head_after rows.head e c.last =
    ap Some (head_back m first.h c.moves.figures first.days) ∙ sym first.is
    ∙ ap (λ o. head_after o e c.last) old.part.head in
    let whole : IsWhole (part_from end new) (changed c rows) =
    whole_after (part_from end new) rows c here head
    (seats_shown m e a.seats rows w keyed.seats old.part.seats (sound_in m (matters_from a) meant.matters.whole)
    here.place) refl
    (entries_shown m e a.entries rows w (whole_entries (part_at m a) rows old)) in
    matter_done m c a first.h (seats_by m e a.seats) (entries_by m e a.entries) (movements_by m e a.movements) b same
    keyed.heads meant may some first.days (placed_by m e a meant.written) whole
    (movements_shown m e c.movement rows a.movements w one meant.written.movements here.movement)
