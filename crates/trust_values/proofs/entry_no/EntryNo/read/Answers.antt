use Rattle.trust_values.proofs.EntryFacts.{entry_of-is}
use Rattle.trust_values.proofs.entry_no.EntryNo.read.Goals as goal

pub returns-clause-value : goal.returns-clause-value
returns-clause-value c = let e = c.read_entry.ensures in entry_of-is _ _ e.range e.some e.none
