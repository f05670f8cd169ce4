use Rattle.portal_messages.proofs.Names.{arith, ints, nat_tests}
use Rattle.portal_messages.proofs.NextFacts.{said-framed, said-next}
use Rattle.portal_messages.proofs.input.read_message.Goals as goal

pub returns-in-Err-clause-next : goal.returns-in-Err-clause-next
returns-in-Err-clause-next g c = grind (arith, ints, nat_tests, said-next)

pub returns-in-Err-clause-framing : goal.returns-in-Err-clause-framing
returns-in-Err-clause-framing g c = λ _. said-framed _ c.in-Err.last _ (cc) c.in-Err.ensures.last
