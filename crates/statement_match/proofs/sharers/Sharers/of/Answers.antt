use Rattle.std.proofs.lemmas.List.{take_min}
use Rattle.statement_match.proofs.Names.{length, take, arith, ints, nat_tests}
use Rattle.statement_match.proofs.sharers.Sharers.of.Goals as goal

pub returns : goal.returns
returns c = grind (arith, ints, nat_tests, length, take, take_min)
