use Rattle.desk_laws.proofs.OnceBank.{firm-line-once}
use Rattle.desk_laws.proofs.laws.firm_line_once.Goals as goal

pub returns : goal.returns
returns c = firm-line-once
