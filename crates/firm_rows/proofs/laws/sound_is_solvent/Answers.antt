use Rattle.firm_rows.proofs.Solvent.{sound-solvent}
use Rattle.firm_rows.proofs.laws.sound_is_solvent.Goals as goal

pub returns : goal.returns
returns c = sound-solvent c.sound_is_covered.ensures
