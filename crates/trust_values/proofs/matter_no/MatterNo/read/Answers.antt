use Rattle.trust_values.proofs.ReadFacts.{matter_of-is}
use Rattle.trust_values.proofs.matter_no.MatterNo.read.Goals as goal

pub returns-clause-value : goal.returns-clause-value
returns-clause-value c = let e = c.read_matter.ensures in matter_of-is _ _ e.range e.some e.none
