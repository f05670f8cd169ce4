use Rattle.desk_trail.proofs.AuditedRuns.{older-trails_fit, trails-fit}
use Rattle.desk_trail.proofs.laws.trails_pass_the_audit.Goals as goal

pub returns : goal.returns
returns c = record { begun = trails-fit; older = older-trails_fit }
