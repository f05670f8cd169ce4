use Rattle.command_line.proofs.Names.{arith, ints, nat_tests}
use Rattle.command_line.proofs.AdviceFacts.{lacks-value}
use Rattle.command_line.proofs.faults.empty_setting.Goals as goal

pub returns-then-is_value_lacking : goal.returns-then-is_value_lacking
returns-then-is_value_lacking c = grind (arith, ints, nat_tests, lacks-value)
