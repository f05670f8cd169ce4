use Rattle.figure_laws.proofs.Trial.{trial-kept, total-kept}
use Rattle.figure_laws.proofs.laws.trial_is_kept.Goals as goal

pub returns-clause-lines : goal.returns-clause-lines
returns-clause-lines c = trial-kept

pub returns-clause-total : goal.returns-clause-total
returns-clause-total c = total-kept
