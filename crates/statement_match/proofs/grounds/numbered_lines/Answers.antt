use Rattle.statement_match.proofs.Names.{length, arith, ints, nat_tests}
use Rattle.statement_match.proofs.NumberedLines.{numbered_done, numbered_more}
use Rattle.statement_match.proofs.grounds.numbered_lines.Goals as goal

pub loop-place-preserved : goal.loop-place-preserved
loop-place-preserved c = grind (arith, ints, nat_tests, length, numbered_more)

pub returns : goal.returns
returns c = grind (arith, ints, nat_tests, length, numbered_done)
