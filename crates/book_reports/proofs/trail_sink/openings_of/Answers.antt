use Rattle.std.proofs.Common.{arith}
use Rattle.std.proofs.lemmas.Grind.{common_steps}
use Rattle.book_reports.proofs.trail_sink.openings_of.Goals as goal

pub loop-note-preserved : goal.loop-note-preserved
loop-note-preserved c = λ m. grind (arith, common_steps, c.loop-note.invariant m, c.in_ok-add_note.ensures m)
