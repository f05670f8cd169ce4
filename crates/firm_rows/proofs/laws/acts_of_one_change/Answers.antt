use Rattle.firm_rows.proofs.Acts.{acts-of-one-change}
use Rattle.firm_rows.proofs.laws.acts_of_one_change.Goals as goal

pub returns : goal.returns
returns c = acts-of-one-change
