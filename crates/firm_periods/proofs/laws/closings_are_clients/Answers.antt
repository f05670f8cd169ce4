use Rattle.firm_periods.proofs.Accounts.{closings-lines, closings-total}
use Rattle.firm_periods.proofs.laws.closings_are_clients.Goals as goal

pub returns-clause-lines : goal.returns-clause-lines
returns-clause-lines c = closings-lines

pub returns-clause-total : goal.returns-clause-total
returns-clause-total c = closings-total
