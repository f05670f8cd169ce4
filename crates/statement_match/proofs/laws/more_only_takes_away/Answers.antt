use Rattle.statement_match.proofs.Less.{more_only_takes_away}
use Rattle.statement_match.proofs.laws.more_only_takes_away.Goals as goal

pub returns : goal.returns
returns c = more_only_takes_away
