-- What the steps of a change of a matter make that writes an entry, a new one or one in the place of another.
use Rattle.sql_rows.proofs.Names.{◌≡◌, ℕ, pos, ◌≤◌, List, ◌++◌, map, Option, Some, refl, sym, ap, subst, ◌∙◌, Head, seen_on, Numbered, Part, IsWhole, IsWritten, entry_put, kept_as, other_written, MatterChange, IsChange, changed, head_after, Movement, of, kept_movements, joined_movement, rows_in, seats_of, Lists, head_columns, AreKeyed, AreMeant, IsWrittenSeat, firm_from, matters_from, part_from, head_from, seat_from, movement_from, IsTypedEdit, AreMade, head_at, edit_steps, entry_steps, movement_steps, row_steps, arith, ints, nat_tests}
use Rattle.matter_parts.specs.declared.edit.Edit.TheVariants as edit
use Rattle.matter_parts.proofs.Applied.{IsAfter, after-append, after-exchange}
use Rattle.sql_tables.specs.Rows as table
use Rattle.sql_rows.proofs.Becomes.{ArePlaced, part_at, whole_at, sound_in, change_at, with_matter, AreRowsMade, matter_done}
use Rattle.sql_rows.proofs.EntriesMade.{entry_made}
use Rattle.sql_rows.proofs.EntryFits.{IsEntryChange, fits-change}
use Rattle.sql_rows.proofs.EntryOrder.{kept_of}
use Rattle.sql_rows.proofs.HeadFirst.{head_first}
use Rattle.sql_rows.proofs.Heads.{HasDays, head_back}
use Rattle.sql_rows.proofs.Placed.{placed_same}
use Rattle.sql_rows.proofs.Movements.{AreMovements, movement_made}
use Rattle.sql_rows.proofs.Steps.{made-append}

-- What the change says, be the entry a new one or not.

write_some : (c : MatterChange) (x : Numbered) → IsEntryChange c x → c.edit ≡ edit.Nothing → ⊥
write_some c x x2 none = grind (arith, ints, nat_tests)

write_typed : (c : MatterChange) (x : Numbered) → IsEntryChange c x → IsTypedEdit c.edit
write_typed c x x2 = grind (arith, ints, nat_tests)

write_seen : (c : MatterChange) (x : Numbered) (o : Option Head) → IsEntryChange c x
    → head_after o c.edit c.last ≡ seen_on o c.last
write_seen c x o x3 = grind (arith, ints, nat_tests, head_after)

write_steps : (m : ℕ) (c : MatterChange) (x : Numbered) → IsEntryChange c x
    → edit_steps m c c.edit ≡ entry_steps m x c.moves ++ movement_steps m c.movement
write_steps m c x x3 = grind (arith, ints, nat_tests, edit_steps)

write_keeps : (m : ℕ) (c : MatterChange) (x : Numbered) (shown moves : List Movement) → IsEntryChange c x
    → shown ≡ moves → shown ≡ kept_movements m c.edit moves
write_keeps m c x shown moves x5 same = grind (arith, ints, nat_tests, kept_movements)

write_after : (old new : Part) (c : MatterChange) (x : Numbered) → IsEntryChange c x
    → IsWritten old x c.moves c.last new → IsAfter old c new
write_after old new c x x4 put = grind (arith, ints, nat_tests, after-append, after-exchange)

-- What it writes.

-- the head that is put in has the last day of the change
head_seen : (m : ℕ) (c : MatterChange) (x : Numbered) (a : Lists) (h : Head) → IsEntryChange c x → HasDays h
    → head_after (head_at m a) c.edit c.last ≡ Some h
    → Some (head_from (head_columns m h c.moves.figures)) ≡ seen_on (head_at m a) c.last
head_seen m c x a h w days is = ap Some (head_back m h c.moves.figures days) ∙ sym is ∙ write_seen c x (head_at m a) w

-- and its part is the one with the written entry
part_written : (m : ℕ) (c : MatterChange) (x : Numbered) (a b : Lists) (h : Head)
    → Some (head_from (head_columns m h c.moves.figures)) ≡ seen_on (head_at m a) c.last → b.seats ≡ a.seats
    → kept_of (pos m) b.entries
    ≡ other_written (entry_put (kept_of (pos m) a.entries) (kept_as x c.moves)) c.moves.other
    → IsWritten (part_at m a) x c.moves c.last (part_from b (head_columns m h c.moves.figures))
part_written m c x a b h head same kept = grind (arith, ints, nat_tests, map, seat_from, seats_of)

-- entries and movements, one after the other
both_put : (a mid b : Lists) (es : List table.Entry) (ms : List table.Movement) → mid ≡ record a { entries = es }
    → b ≡ record mid { movements = ms } → b ≡ record a { entries = es; movements = ms }
both_put a mid b es ms first second = second ∙ ap (λ (l : Lists). record l { movements = ms }) first

-- The change.

-- so its steps make what it says
pub with_entry_made : (m : ℕ) (c : MatterChange) (x : Numbered) (a b : Lists) → IsEntryChange c x → 1 ≤ m → AreKeyed a
    → AreMeant a → IsChange (of m (firm_from a)) c → AreMade (row_steps m c c.edit) a b
    → AreRowsMade m c a b
with_entry_made m c x a b w one keyed meant may made =
    let rows = rows_in m (matters_from a) in
    let here = change_at a m c meant may in
    let old : IsWhole (part_at m a) rows = whole_at a m keyed.heads meant in
    let some = write_some c x w in
    let first = head_first m c a b keyed.heads meant here some (write_typed c x w) made in
    let new = head_columns m first.h c.moves.figures in
    let begun : Lists = record a { heads = table.put_head new a.heads } in
    let parts = made-append (entry_steps m x c.moves) (movement_steps m c.movement) begun b
    (subst (λ l. AreMade l begun b) (write_steps m c x w) first.rest) in
    let mid = parts.0 in
    let es = mid.entries in
    let fits = fits-change (part_at m a) rows c x old here w in
    let put =
    entry_made m x c.moves begun mid keyed.entries meant.written.entries fits parts.1 in
    let moved = movement_made m c.movement mid b one parts.2 in
    let ms = moved.0 in
    let from : AreMovements a.movements (joined_movement m c.movement) ms =
    subst (λ (l : Lists). AreMovements l.movements (joined_movement m c.movement) ms) put.same moved.2 in
    let end = with_matter a new a.seats es ms in
    let same : b ≡ end = both_put begun mid b es ms put.same moved.1 in
    let head : Some (head_from new) ≡ seen_on (head_at m a) c.last = head_seen m c x a first.h w first.days first.is in
    let written = part_written m c x a end first.h head (refl {a = a.seats}) put.own in
    let whole : IsWhole (part_from end new) (changed c rows) =
    (write_after (part_at m a) (part_from end new) c x w written).whole rows
    (sound_in m (matters_from a) meant.matters.whole) old here in
    let placed : ArePlaced m a a.seats es ms = record {
      seats_placed = placed_same (λ (s : table.Seat). s.matter) table.seat_cmp IsWrittenSeat m a.seats meant.written.seats;
      entries_placed = put.placed;
      movements_written = from.written meant.written.movements;
    } in
    matter_done m c a first.h a.seats es ms b same keyed.heads meant may some first.days placed whole
    (write_keeps m c x (map movement_from ms) (map movement_from a.movements ++ joined_movement m c.movement) w
    from.shown)
