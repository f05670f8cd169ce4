use Rattle.firm_rows.proofs.FirmChanges.{change-stays-sound}
use Rattle.firm_rows.proofs.Kept.{empty-sound}
use Rattle.firm_rows.proofs.laws.firm_stays_sound.Goals as goal

pub returns-clause-empty : goal.returns-clause-empty
returns-clause-empty c = empty-sound

pub returns-clause-kept : goal.returns-clause-kept
returns-clause-kept c = change-stays-sound c.sound_is_covered.ensures
