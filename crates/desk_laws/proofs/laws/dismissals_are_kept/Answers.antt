use Rattle.desk_laws.proofs.KeptDismissals.{runs-keep-dismissals, steps-keep-dismissals}
use Rattle.desk_laws.proofs.laws.dismissals_are_kept.Goals as goal

pub returns-clause-steps : goal.returns-clause-steps
returns-clause-steps c = steps-keep-dismissals

pub returns-clause-runs : goal.returns-clause-runs
returns-clause-runs c = runs-keep-dismissals
