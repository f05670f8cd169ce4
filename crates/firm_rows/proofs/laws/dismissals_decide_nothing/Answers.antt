use Rattle.firm_rows.proofs.Trail.{dismissals-decide-nothing}
use Rattle.firm_rows.proofs.laws.dismissals_decide_nothing.Goals as goal

pub returns : goal.returns
returns c = dismissals-decide-nothing
