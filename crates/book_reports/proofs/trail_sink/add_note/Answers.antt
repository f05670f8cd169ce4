use Rattle.std.proofs.Common.{arith}
use Rattle.std.proofs.lemmas.Grind.{common_steps}
use Rattle.book_reports.proofs.trail_sink.add_note.Goals as goal

pub returns : goal.returns
returns c = λ m. grind (arith, common_steps, c.in_ok-insert.ensures.updates.0 m)
