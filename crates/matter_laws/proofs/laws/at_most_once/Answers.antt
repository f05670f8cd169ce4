use Rattle.matter_laws.proofs.Purging.{ask-unchanged, ask-repeat}
use Rattle.matter_laws.proofs.laws.at_most_once.Goals as goal

pub returns : goal.returns
returns c = record { unchanged = ask-unchanged; repeat = ask-repeat }
