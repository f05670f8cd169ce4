use Rattle.statement_match.proofs.Names.{append-nil, option_to_list, map-append, slice_get_past, slice_get_read, elements, arith, ints, nat_tests}
use Rattle.statement_match.proofs.entry_index.add_at.Goals as goal

pub returns-in_ok-push : goal.returns-in_ok-push
returns-in_ok-push c = grind (arith, ints, nat_tests, elements, map-append, option_to_list, slice_get_read)

pub returns-in_default : goal.returns-in_default
returns-in_default c = grind (arith, ints, nat_tests, elements, option_to_list, slice_get_past, append-nil)
