use Rattle.statement_match.proofs.Names.{length, arith, ints, nat_tests}
use Rattle.statement_match.proofs.Telling.{own_step, told_step}
use Rattle.statement_match.proofs.unmatched.records_told.Goals as goal

pub loop-place-preserved : goal.loop-place-preserved
loop-place-preserved c = record {
  lines = grind (arith, ints, nat_tests, length, told_step);
  own = grind (arith, ints, nat_tests, own_step);
}
