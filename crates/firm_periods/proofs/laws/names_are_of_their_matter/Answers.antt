use Rattle.firm_periods.proofs.ClientsNamed.{names-own}
use Rattle.firm_periods.proofs.laws.names_are_of_their_matter.Goals as goal

pub returns : goal.returns
returns c = names-own
