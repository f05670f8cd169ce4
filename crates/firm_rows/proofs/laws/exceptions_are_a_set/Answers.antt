use Rattle.firm_rows.proofs.Lines.{with-adds, without-takes, with_line-again}
use Rattle.firm_rows.proofs.laws.exceptions_are_a_set.Goals as goal

pub returns-clause-with : goal.returns-clause-with
returns-clause-with c = with-adds

pub returns-clause-without : goal.returns-clause-without
returns-clause-without c = without-takes

pub returns-clause-again : goal.returns-clause-again
returns-clause-again c = with_line-again
