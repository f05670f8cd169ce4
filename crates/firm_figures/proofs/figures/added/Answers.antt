use Rattle.firm_figures.proofs.Names.{rules, wraps, added}
use Rattle.firm_figures.proofs.figures.added.Goals as goal

pub returns : goal.returns
unfolding added
returns c = search (rules, wraps)
