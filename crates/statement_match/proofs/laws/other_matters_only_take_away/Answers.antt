use Rattle.statement_match.proofs.Firms.{other_matters_only_take_away}
use Rattle.statement_match.proofs.laws.other_matters_only_take_away.Goals as goal

pub returns : goal.returns
returns c = other_matters_only_take_away
