-- Forms of a step: edits of sound rows, what they move, and what an accepted ask has passed.
use Rattle.matter_parts.proofs.Names.{◌≡◌, ℕ, ◌≤◌, List, Option, Entry, Head, Seat, Rows, last_of, Sound, Edit, IsPlace, changed_by, movement_of, AreMoved, IsMovedWithin}
use Rattle.matter_parts.proofs.Editing.{MayEdit}

-- Edits of sound rows, of any entry.

abbrev pub rows-of : Option Head → List Seat → List Entry → Rows
rows-of head seats es = record { head = head; seats = seats; entries = es }

-- what an edit moves is behind what was moved before, on no day before the first, and on none after the second
pub record MovesWithin (es : List Entry) (e : Edit) (from to : ℕ) : Type 0 where
  pub moved : AreMoved es e (movement_of es e)
  pub dated : IsMovedWithin from to (movement_of es e)

-- A step.

-- the edit fits, leaves the rows sound, and moves one event in the journal at most, no earlier than the last day
-- before it and no later than the one after it; it is of entry n, which draws on t
pub record IsStepOf (rows : Rows) (t n : ℕ) (e : Edit) (last : ℕ) : Type 0 where
  pub place : IsPlace rows e
  pub sound : Sound (changed_by e last rows)
  pub not_before : last_of rows.head ≤ last
  pub seen : last_of (changed_by e last rows).head ≡ last
  pub moves : MovesWithin rows.entries e (last_of rows.head) last
  pub may : MayEdit rows.entries t n e
