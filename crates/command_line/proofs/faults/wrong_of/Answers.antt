use Rattle.command_line.proofs.Names.{arith, ints, nat_tests}
use Rattle.command_line.proofs.AdviceFacts.{has-wrong-value, value-wrong}
use Rattle.command_line.proofs.faults.wrong_of.Goals as goal

pub returns-in-Ok : goal.returns-in-Ok
returns-in-Ok c = grind (arith, ints, nat_tests, value-wrong, has-wrong-value)
