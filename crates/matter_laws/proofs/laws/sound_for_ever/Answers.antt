use Rattle.trust_matter.proofs.Steps.{steps-sound}
use Rattle.trust_matter.proofs.LineSteps.{lines-sound}
use Rattle.matter_laws.proofs.laws.sound_for_ever.Goals as goal

pub returns : goal.returns
returns c = record { asks = steps-sound; lines = lines-sound }
