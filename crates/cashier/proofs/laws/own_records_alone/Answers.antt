use Rattle.cashier.proofs.IsolationFacts.{own_records-alone}
use Rattle.cashier.proofs.laws.own_records_alone.Goals as goal

pub returns : goal.returns
returns c = own_records-alone
