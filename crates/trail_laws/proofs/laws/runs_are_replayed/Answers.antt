use Rattle.trail_laws.proofs.Replayed.{later-runs_are_replayed, runs-are_replayed, steps-keep_complete, steps-keep_replayed}
use Rattle.trail_laws.proofs.laws.runs_are_replayed.Goals as goal

pub returns : goal.returns
returns c = record { steps = steps-keep_replayed; complete = steps-keep_complete; later_runs = later-runs_are_replayed; runs = runs-are_replayed }
