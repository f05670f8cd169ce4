use Rattle.command_line.proofs.Names.{arith, ints, nat_tests}
use Rattle.command_line.proofs.AdviceFacts.{names, wants-command}
use Rattle.command_line.proofs.faults.command_named.Goals as goal
use Rattle.command_line.proofs.faults.command_named.Goals.{in-WantsCommand, in-WantsValue}

pub returns-in-Met : goal.returns-in-Met
returns-in-Met c = grind (arith, ints, nat_tests, names)

pub loop-place-preserved : goal.loop-place-preserved
loop-place-preserved c = grind (arith, ints, nat_tests, in-WantsCommand, wants-command, in-WantsValue)
