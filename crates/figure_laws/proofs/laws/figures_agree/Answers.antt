use Rattle.figure_laws.proofs.DifferenceTold.{always-agree}
use Rattle.figure_laws.proofs.laws.figures_agree.Goals as goal

pub returns : goal.returns
returns c = always-agree
