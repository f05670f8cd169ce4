use Rattle.statement_match.proofs.Names.{arith, ints, to_z-of_z, is_held, day_key, elements, filter_both, nat_tests}
use Rattle.statement_match.proofs.entry_index.EntryIndex.sum_on.Goals as goal

pub returns : goal.returns
returns c = grind (arith, ints, nat_tests, elements, filter_both, is_held, day_key, to_z-of_z)
