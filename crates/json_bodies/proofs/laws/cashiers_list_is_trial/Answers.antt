use Rattle.json_bodies.proofs.Trial.{cashiers-trial}
use Rattle.json_bodies.proofs.laws.cashiers_list_is_trial.Goals as goal

pub returns : goal.returns
returns c = cashiers-trial
