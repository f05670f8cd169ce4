use Rattle.trust_desk.proofs.Names.{arith, ints, nat_tests}
use Rattle.trust_desk.proofs.SearchedLines.{looked-all}
use Rattle.trust_desk.proofs.exceptions.is_exception.Goals as goal

pub returns-clause-found : goal.returns-clause-found
returns-clause-found g c = grind (arith, ints, nat_tests, looked-all)
