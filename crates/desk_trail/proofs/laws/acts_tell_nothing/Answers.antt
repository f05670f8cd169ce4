use Rattle.desk_trail.proofs.Alike.{TheActs}
use Rattle.desk_trail.proofs.Replies.{months-tell_nothing, runs-tell_nothing, steps-tell_nothing}
use Rattle.desk_trail.proofs.laws.acts_tell_nothing.Goals as goal

pub returns : goal.returns
returns c = record { steps = steps-tell_nothing TheActs; runs = runs-tell_nothing TheActs; month = months-tell_nothing }
