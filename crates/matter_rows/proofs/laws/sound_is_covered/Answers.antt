use Rattle.matter_rows.proofs.Covered.{sound-covered}
use Rattle.matter_rows.proofs.laws.sound_is_covered.Goals as goal

pub returns : goal.returns
returns c = sound-covered
