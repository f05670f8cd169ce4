use Rattle.matter_laws.proofs.LastNumber.{full-takes-none}
use Rattle.matter_laws.proofs.laws.full_takes_none.Goals as goal

pub returns : goal.returns
returns c = full-takes-none
