use Rattle.figure_laws.proofs.Lists.{retention-kept}
use Rattle.figure_laws.proofs.laws.retention_is_kept.Goals as goal

pub returns : goal.returns
returns c = retention-kept
