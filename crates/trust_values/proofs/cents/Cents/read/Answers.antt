use Rattle.trust_values.proofs.ReadFacts.{amount_of_is}
use Rattle.trust_values.proofs.cents.Cents.read.Goals as goal

pub returns-clause-value : goal.returns-clause-value
returns-clause-value c = let e = c.read_amount.ensures in amount_of_is _ _ e.range e.some e.none
