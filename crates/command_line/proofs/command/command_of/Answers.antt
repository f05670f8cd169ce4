use Rattle.command_line.proofs.Names.{arith, ints, nat_tests}
use Rattle.command_line.proofs.LineFacts.{gives, leaves-by, means, meets, met, unmet}
use Rattle.command_line.proofs.command.command_of.Goals as goal

pub returns-in_err-matches-clause-none : goal.returns-in_err-matches-clause-none
returns-in_err-matches-clause-none c = leaves-by _ _ c.from_residual.result c.in_err-matches.ensures.err c.from_residual.ensures.1

pub returns-in_default-clause-none : goal.returns-in_default-clause-none
returns-in_default-clause-none c = grind (arith, ints, nat_tests, gives)

pub returns-in_default-subcommand-clause-none : goal.returns-in_default-subcommand-clause-none
returns-in_default-subcommand-clause-none c = grind (arith, ints, nat_tests, unmet, gives)

pub returns-in_default-task_called-clause-none : goal.returns-in_default-task_called-clause-none
returns-in_default-task_called-clause-none c = grind (arith, ints, nat_tests, gives, met)

pub returns-clause-plan : goal.returns-clause-plan
returns-clause-plan c = grind (arith, ints, nat_tests, means, meets, met)
