use Rattle.trail_replay.proofs.told.shown.Goals as goal
use Rattle.std.proofs.Common.{arith}
use Rattle.trail_replay.proofs.Telling.{empty-words}

pub returns-in_default-3 : goal.returns-in_default-3
returns-in_default-3 c = λ act. absurd (grind (arith, empty-words))
