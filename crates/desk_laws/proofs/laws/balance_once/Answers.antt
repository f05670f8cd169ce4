use Rattle.desk_laws.proofs.OnceBank.{balance-once}
use Rattle.desk_laws.proofs.laws.balance_once.Goals as goal

pub returns : goal.returns
returns c = balance-once
