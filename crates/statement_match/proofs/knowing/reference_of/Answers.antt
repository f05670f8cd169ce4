use Rattle.statement_match.proofs.Names.{is_bank_text, arith, ints, nat_tests}
use Rattle.statement_match.proofs.References.{reference_is_text}
use Rattle.statement_match.proofs.knowing.reference_of.Goals as goal

pub unreachable-requires : goal.unreachable-requires
unreachable-requires c = grind (arith, ints, nat_tests, is_bank_text, reference_is_text)
