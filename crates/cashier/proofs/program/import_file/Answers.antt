use Rattle.cashier.proofs.Names.{inr, refl, arith, ints, nat_tests}
use Rattle.cashier.proofs.StatementFacts.{ends-known, leaves-known}
use Rattle.cashier.proofs.program.import_file.Goals as goal

pub returns-clause-ends : goal.returns-clause-ends
returns-clause-ends g c = grind (arith, ints, nat_tests, ends-known)

pub returns-in_default-clause-crash : goal.returns-in_default-clause-crash
returns-in_default-clause-crash g c = λ sure clean stands. inr (c.in_default.ensures.told, refl)

pub returns-clause-crash : goal.returns-clause-crash
returns-clause-crash g c = grind (arith, ints, nat_tests, leaves-known)
