use Rattle.statement_match.proofs.Names.{arith, ints, to_z-of_z, total_of, beside_narrows, filtered, nat_tests}
use Rattle.statement_match.proofs.rule.total_beside.Goals as goal

pub returns : goal.returns
returns c = grind (arith, ints, nat_tests, total_of, filtered, beside_narrows, to_z-of_z)
