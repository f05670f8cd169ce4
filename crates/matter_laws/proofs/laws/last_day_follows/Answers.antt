use Rattle.matter_laws.proofs.HeadSteps.{day-is_last, reads-change_nothing}
use Rattle.matter_laws.proofs.laws.last_day_follows.Goals as goal

pub returns : goal.returns
returns c = record { changes = day-is_last; reads = reads-change_nothing }
