use Rattle.trail_laws.proofs.Signed.{acts-stay_allowed}
use Rattle.trail_laws.proofs.Approved.{lawyers-approve}
use Rattle.trail_laws.proofs.Steps.{rule-is_of_ask}
use Rattle.trail_laws.proofs.laws.acts_are_allowed.Goals as goal

pub returns : goal.returns
returns c = record { rules = rule-is_of_ask; steps = acts-stay_allowed; approvals = lawyers-approve }
