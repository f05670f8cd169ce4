use Rattle.matter_laws.proofs.Reasons.{first-reason, no-reason}
use Rattle.matter_laws.proofs.laws.first_reason_holds.Goals as goal

pub returns : goal.returns
returns c = record { first = first-reason; none = no-reason }
