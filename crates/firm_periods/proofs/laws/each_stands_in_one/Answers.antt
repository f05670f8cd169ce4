use Rattle.firm_periods.proofs.OneJournal.{stands-in-one}
use Rattle.firm_periods.proofs.laws.each_stands_in_one.Goals as goal

pub returns : goal.returns
returns c = stands-in-one
