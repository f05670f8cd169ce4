use Rattle.statement_match.proofs.Names.{same_narrows, counted, arith, ints, nat_tests}
use Rattle.statement_match.proofs.rule.booked_like.Goals as goal

pub returns : goal.returns
returns c = grind (arith, ints, nat_tests, counted, same_narrows)
