use Rattle.statement_match.proofs.Names.{nat_lt, open_fit_narrows, counted, arith, ints, nat_tests}
use Rattle.statement_match.proofs.reason.is_shared.Goals as goal

pub returns : goal.returns
returns c = grind (arith, ints, nat_tests, nat_lt, counted, open_fit_narrows)
