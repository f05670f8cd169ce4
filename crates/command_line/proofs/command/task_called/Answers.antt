use Rattle.command_line.proofs.Names.{arith, ints, nat_tests}
use Rattle.command_line.proofs.CommandFacts.{by_name, of_name, uncalled}
use Rattle.command_line.proofs.command.task_called.Goals as goal

pub returns-in_err-command : goal.returns-in_err-command
returns-in_err-command c = grind (arith, ints, nat_tests, uncalled)

pub returns : goal.returns
returns c = grind (arith, ints, nat_tests, by_name, of_name)
