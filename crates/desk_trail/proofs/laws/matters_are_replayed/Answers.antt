use Rattle.desk_trail.proofs.ReplayedRuns.{later-matters_are_replayed, matters-are_replayed, runs-stay_complete, runs-stay_replayed}
use Rattle.desk_trail.proofs.laws.matters_are_replayed.Goals as goal

pub returns : goal.returns
returns c = record { runs = runs-stay_replayed; complete = runs-stay_complete; replayed = matters-are_replayed; later = later-matters_are_replayed }
