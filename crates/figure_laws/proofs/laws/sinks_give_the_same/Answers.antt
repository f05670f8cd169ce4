use Rattle.figure_laws.proofs.OfLists.{sinks-give-the-same}
use Rattle.figure_laws.proofs.laws.sinks_give_the_same.Goals as goal

pub returns : goal.returns
returns c = sinks-give-the-same
