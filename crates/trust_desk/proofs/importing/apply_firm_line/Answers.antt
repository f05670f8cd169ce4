use Rattle.trust_desk.proofs.Names.{err_from_is_err_and, arith, ints, nat_tests}
use Rattle.trust_desk.proofs.Beside.{beside-read, beside-unread}
use Rattle.trust_desk.proofs.importing.apply_firm_line.Goals as goal

pub returns-in-Some : goal.returns-in-Some
returns-in-Some g c = grind (arith, ints, nat_tests)

pub returns-in_err-ledger-in-None : goal.returns-in_err-ledger-in-None
returns-in_err-ledger-in-None g c = grind (arith, ints, nat_tests, err_from_is_err_and, beside-unread)

pub returns-in_ok-ledger-in-None : goal.returns-in_ok-ledger-in-None
returns-in_ok-ledger-in-None g c = grind (arith, ints, nat_tests, beside-read)
