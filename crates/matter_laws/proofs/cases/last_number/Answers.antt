use Rattle.matter_laws.proofs.CasesLastNumber.{full-is-told}
use Rattle.matter_laws.proofs.cases.last_number.Goals as goal

pub returns : goal.returns
returns c = full-is-told
