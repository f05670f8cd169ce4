use Rattle.trust_values.proofs.SignedFacts.{bank_amount_of_is}
use Rattle.trust_values.proofs.bank_amount.BankAmount.read.Goals as goal

pub returns-clause-value : goal.returns-clause-value
returns-clause-value c = let e = c.read_signed.ensures in bank_amount_of_is _ _ e.range e.some e.none
