use Rattle.firm_rows.proofs.Trail.{acts-decide-nothing}
use Rattle.firm_rows.proofs.laws.acts_decide_nothing.Goals as goal

pub returns : goal.returns
returns c = acts-decide-nothing
