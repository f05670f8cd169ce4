use Rattle.figure_laws.proofs.Lists.{lists-agree}
use Rattle.figure_laws.proofs.laws.lists_agree.Goals as goal

pub returns : goal.returns
returns c = lists-agree c.sound_is_covered.ensures
