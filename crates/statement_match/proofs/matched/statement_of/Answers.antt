use Rattle.statement_match.proofs.Names.{map, lines_from, records_of, rows_of, becomes, statement_text, arith, ints, nat_tests}
use Rattle.statement_match.proofs.matched.statement_of.Goals as goal

pub returns : goal.returns
unfolding statement_text records_of
returns c today held given = grind (arith, ints, nat_tests, lines_from, rows_of, map, becomes)
