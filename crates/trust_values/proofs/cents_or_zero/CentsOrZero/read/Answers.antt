use Rattle.trust_values.proofs.ReadFacts.{amount_or_zero_of_is}
use Rattle.trust_values.proofs.cents_or_zero.CentsOrZero.read.Goals as goal

pub returns-clause-value : goal.returns-clause-value
returns-clause-value c = let e = c.read_zero_or.ensures in amount_or_zero_of_is _ _ e.range e.some e.none
