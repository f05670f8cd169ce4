use Rattle.statement_match.proofs.Names.{line_key, booking_of, is_beside, line_beside_narrows, counted, arith, ints, nat_tests}
use Rattle.statement_match.proofs.rule.is_single.Goals as goal

pub returns : goal.returns
returns c = grind (arith, ints, nat_tests, counted, is_beside, booking_of, line_key, line_beside_narrows)
