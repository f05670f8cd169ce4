use Rattle.firm_rows.proofs.Names.{IsStrictlySortedBy, refl}
use Rattle.firm_rows.proofs.FirmChanges.{change-stays-in_order}
use Rattle.firm_rows.proofs.laws.firm_stays_in_order.Goals as goal

pub returns-clause-empty : goal.returns-clause-empty
unfolding IsStrictlySortedBy
returns-clause-empty c = record { rows = λ m. refl; exceptions = tt; balances = tt }

pub returns-clause-kept : goal.returns-clause-kept
returns-clause-kept c = change-stays-in_order
