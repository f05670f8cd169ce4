use Rattle.firm_rows.proofs.Trail.{dismissals-of-one-change}
use Rattle.firm_rows.proofs.laws.dismissals_of_one_change.Goals as goal

pub returns : goal.returns
returns c = dismissals-of-one-change
