use Rattle.firm_rows.proofs.Unsound.{solvent-is-not-sound}
use Rattle.firm_rows.proofs.laws.solvent_is_not_sound.Goals as goal

pub returns : goal.returns
returns c = solvent-is-not-sound
