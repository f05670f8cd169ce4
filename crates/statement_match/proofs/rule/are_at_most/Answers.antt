use Rattle.statement_match.proofs.Names.{nat_le, line_key, is_open_like, open_like_narrows, counted, arith, ints, nat_tests}
use Rattle.statement_match.proofs.rule.are_at_most.Goals as goal

pub returns : goal.returns
returns c = grind (arith, ints, nat_tests, nat_le, counted, is_open_like, line_key, open_like_narrows)
