use Rattle.firm_periods.proofs.NamedLists.{named-kept}
use Rattle.firm_periods.proofs.laws.named_are_kept.Goals as goal

pub returns : goal.returns
returns c = named-kept
