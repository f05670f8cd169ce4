use Rattle.statement_match.proofs.Filling.{fills_with_waiting}
use Rattle.statement_match.proofs.laws.filled_entries_wait.Goals as goal

pub returns : goal.returns
returns c = fills_with_waiting
