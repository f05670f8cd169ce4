use Rattle.command_line.proofs.Names.{codes, bytes_eq-Decides, found_of, arith, ints, nat_tests}
use Rattle.command_line.proofs.LineFacts.{first-given}
use Rattle.command_line.proofs.command.ledger_card.Goals as goal

pub returns-then-is_firm-clause-some : goal.returns-then-is_firm-clause-some
returns-then-is_firm-clause-some c = grind (arith, ints, nat_tests, first-given, found_of, codes, bytes_eq-Decides)
