use Rattle.desk_trail.proofs.Alike.{TheDismissals}
use Rattle.desk_trail.proofs.Replies.{runs-tell_nothing, steps-tell_nothing}
use Rattle.desk_trail.proofs.laws.dismissals_tell_nothing.Goals as goal

pub returns : goal.returns
returns c = record { steps = steps-tell_nothing TheDismissals; runs = runs-tell_nothing TheDismissals }
