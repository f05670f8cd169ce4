use Rattle.statement_lines.proofs.Names.{arith, ints, nat_tests}
use Rattle.statement_lines.proofs.writing.new_writer.Goals as goal

pub returns : goal.returns
returns c = grind (arith, ints, nat_tests)
