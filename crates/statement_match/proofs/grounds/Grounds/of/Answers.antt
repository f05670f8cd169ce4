use Rattle.statement_match.proofs.Names.{numbered_key, arith, ints, nat_tests}
use Rattle.statement_match.proofs.grounds.Grounds.of.Goals as goal

pub invariant_of-result : goal.invariant_of-result
invariant_of-result c = grind (arith, ints, nat_tests, numbered_key)
