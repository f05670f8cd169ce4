use Rattle.statement_match.proofs.Writing.{only_references_change}
use Rattle.statement_match.proofs.laws.only_references_change.Goals as goal

pub returns : goal.returns
returns c = only_references_change
