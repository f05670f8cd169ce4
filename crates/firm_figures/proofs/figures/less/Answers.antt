use Rattle.firm_figures.proofs.Names.{rules, wraps, less}
use Rattle.firm_figures.proofs.figures.less.Goals as goal

pub returns : goal.returns
unfolding less
returns c = search (rules, wraps)
