use Rattle.trust_desk.proofs.Names.{err_from_is_err_and, balance_verdict, kept_balance, balance_item, arith, ints, nat_tests}
use Rattle.trust_desk.proofs.ItemsApplied.{balance-tells, item-unwritten, item-written}
use Rattle.trust_desk.proofs.importing.apply_balance.Goals as goal

pub write_balance-requires : goal.write_balance-requires
write_balance-requires g c = grind (arith, ints, nat_tests, balance_verdict, kept_balance)

pub returns : goal.returns
returns g c = grind (arith, ints, nat_tests, item-written, balance_item, balance-tells, balance_verdict)

pub returns-in_err-write_balance : goal.returns-in_err-write_balance
returns-in_err-write_balance g c = grind (arith, ints, nat_tests, err_from_is_err_and, item-unwritten, balance-tells)
