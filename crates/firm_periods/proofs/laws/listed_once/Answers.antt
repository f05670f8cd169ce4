use Rattle.firm_periods.proofs.ListedOnce.{listed-once}
use Rattle.firm_periods.proofs.laws.listed_once.Goals as goal

pub returns : goal.returns
returns c = listed-once
