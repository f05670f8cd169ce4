use Rattle.firm_periods.proofs.Approvals.{approvals-kept}
use Rattle.firm_periods.proofs.laws.approvals_are_kept.Goals as goal

pub returns : goal.returns
returns c = approvals-kept
