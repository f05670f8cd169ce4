use Rattle.matter_laws.proofs.Purging.{line-unchanged, line-repeat}
use Rattle.matter_laws.proofs.laws.line_at_most_once.Goals as goal

pub returns : goal.returns
returns c = record { unchanged = line-unchanged; repeat = line-repeat }
