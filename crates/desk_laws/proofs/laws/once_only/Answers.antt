use Rattle.desk_laws.proofs.Once.{once-only, line-once-only}
use Rattle.desk_laws.proofs.laws.once_only.Goals as goal

pub returns-clause-asks : goal.returns-clause-asks
returns-clause-asks c = once-only

pub returns-clause-lines : goal.returns-clause-lines
returns-clause-lines c = line-once-only
