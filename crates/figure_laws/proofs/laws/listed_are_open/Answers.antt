use Rattle.figure_laws.proofs.Open.{listed-open}
use Rattle.figure_laws.proofs.laws.listed_are_open.Goals as goal

pub returns : goal.returns
returns c = listed-open
