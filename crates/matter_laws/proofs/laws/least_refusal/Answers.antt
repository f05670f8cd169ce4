use Rattle.trust_matter.proofs.Table.{refuses_least, none_holds}
use Rattle.matter_laws.proofs.laws.least_refusal.Goals as goal

pub returns : goal.returns
returns c = record { least = refuses_least; none = none_holds }
