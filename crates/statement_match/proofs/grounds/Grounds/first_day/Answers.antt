use Rattle.statement_match.proofs.Names.{arith, ints, to_z-of_z, day_with, nat_tests}
use Rattle.statement_match.proofs.FirstDay.{day_is}
use Rattle.statement_match.proofs.grounds.Grounds.first_day.Goals as goal

pub returns-in-Some : goal.returns-in-Some
returns-in-Some c = grind (arith, ints, nat_tests, day_with, to_z-of_z, day_is)

pub returns-in-None : goal.returns-in-None
returns-in-None c = grind (arith, ints, nat_tests, day_with, to_z-of_z)
