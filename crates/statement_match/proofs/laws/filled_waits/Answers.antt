use Rattle.statement_match.proofs.Firms.{filled_waits}
use Rattle.statement_match.proofs.laws.filled_waits.Goals as goal

pub returns : goal.returns
returns c = filled_waits
