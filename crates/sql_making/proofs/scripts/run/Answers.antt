use Rattle.sql_making.proofs.Names.{arith, not, state, when_err, when_ok, ints, nat_tests}
use Rattle.sql_making.proofs.Endings.{uncommitted}
use Rattle.sql_making.proofs.scripts.run.Goals as goal

pub returns-clause-neither : goal.returns-clause-neither
returns-clause-neither g c clean still = grind (arith, ints, nat_tests, state, when_err, uncommitted, not)

pub returns-clause-serves : goal.returns-clause-serves
returns-clause-serves g c clean = grind (arith, ints, nat_tests, state, when_ok)

pub returns-clause-was_open : goal.returns-clause-was_open
returns-clause-was_open g c clean = grind (arith, ints, nat_tests, state, when_ok)
