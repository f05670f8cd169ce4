use Rattle.std.proofs.Common.{◌≡◌, ℕ, nat_eq, take}
use Rattle.std.specs.HashMap.{get}
use Rattle.book_reports.specs.FirmTrails.{first_noted}
use Rattle.book_reports.proofs.trail_sink.openings_of.Given as goal

-- of the notes so far
abbrev pub invariant-loop-note : goal.invariant-loop-note
invariant-loop-note l = (m : ℕ) → get nat_eq l.openings m ≡ first_noted m (take l.note-index l.notes)
