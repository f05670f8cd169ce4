use Rattle.matter_parts.proofs.Audited.{whole-sound}
use Rattle.matter_parts.proofs.laws.whole_is_sound.Goals as goal

pub returns : goal.returns
returns c = whole-sound
