use Rattle.desk_laws.proofs.ReasonsTold.{reasons-verdicts}
use Rattle.desk_laws.proofs.laws.reasons_are_verdicts.Goals as goal

pub returns : goal.returns
returns c = reasons-verdicts
