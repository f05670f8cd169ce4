use Rattle.firm_periods.proofs.PurgedApprovals.{approvals-left}
use Rattle.firm_periods.proofs.PurgedMoves.{period-left, waiting-left}
use Rattle.firm_periods.proofs.laws.purging_changes_no_period.Goals as goal

pub returns-clause-periods : goal.returns-clause-periods
returns-clause-periods c = period-left c.sound_is_covered.ensures

pub returns-clause-approvals : goal.returns-clause-approvals
returns-clause-approvals c = approvals-left c.sound_is_covered.ensures

pub returns-clause-waiting : goal.returns-clause-waiting
returns-clause-waiting c = waiting-left c.sound_is_covered.ensures
