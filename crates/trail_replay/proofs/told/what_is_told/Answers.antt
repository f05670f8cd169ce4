use Rattle.trail_replay.proofs.told.what_is_told.Goals as goal
use Rattle.std.proofs.Common.{arith}
use Rattle.trail_replay.proofs.Telling.{own-none, whole-entry}

pub returns-in-None-find : goal.returns-in-None-find
returns-in-None-find c = grind (arith, (whole-entry c.args.matter.now c.in-Some-entry.entry c.requires), own-none)

pub returns-in-Some-find : goal.returns-in-Some-find
returns-in-Some-find c = grind (arith, (whole-entry c.args.matter.now c.in-Some-entry.entry c.requires))
