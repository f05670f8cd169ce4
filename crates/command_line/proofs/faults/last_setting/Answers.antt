use Rattle.command_line.proofs.Names.{arith, ints, nat_tests}
use Rattle.command_line.proofs.AdviceFacts.{named-more}
use Rattle.command_line.proofs.faults.last_setting.Goals as goal

pub loop-word-preserved : goal.loop-word-preserved
loop-word-preserved c = grind (arith, ints, nat_tests, named-more)
