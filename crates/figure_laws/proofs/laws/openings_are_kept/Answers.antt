use Rattle.figure_laws.proofs.OpeningRows.{openings-kept}
use Rattle.figure_laws.proofs.laws.openings_are_kept.Goals as goal

pub returns : goal.returns
returns c = openings-kept
