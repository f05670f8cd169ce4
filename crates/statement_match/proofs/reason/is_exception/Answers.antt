use Rattle.statement_match.proofs.Names.{nat_lt, is_named_like, arith, ints, nat_tests}
use Rattle.statement_match.proofs.Picks.{any_counted}
use Rattle.statement_match.proofs.reason.is_exception.Goals as goal

pub returns : goal.returns
returns c = grind (arith, ints, nat_tests, nat_lt, any_counted, is_named_like)
