use Rattle.trust_desk.proofs.Names.{option_map, items, arith, ints, nat_tests}
use Rattle.trust_desk.proofs.ItemsRead.{imports-others}
use Rattle.trust_desk.proofs.desk.Desk.import.Goals as goal

pub returns-clause-others : goal.returns-clause-others
returns-clause-others g c = grind (arith, ints, nat_tests, option_map, items, imports-others)
