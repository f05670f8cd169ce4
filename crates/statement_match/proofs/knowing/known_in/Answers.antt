use Rattle.statement_match.proofs.Names.{arith, ints, nat_tests}
use Rattle.statement_match.proofs.AllKnown.{all_known}
use Rattle.statement_match.proofs.knowing.known_in.Goals as goal

pub returns-clause-known : goal.returns-clause-known
returns-clause-known g c = grind (arith, ints, nat_tests, all_known)
