use Rattle.statement_match.proofs.Names.{arith, ints, nat_tests}
use Rattle.statement_match.proofs.rule.is_booked.Goals as goal

pub returns : goal.returns
returns c = grind (arith, ints, nat_tests)
