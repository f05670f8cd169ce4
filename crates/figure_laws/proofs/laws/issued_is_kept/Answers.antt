use Rattle.figure_laws.proofs.IssuedRows.{issued-kept}
use Rattle.figure_laws.proofs.laws.issued_is_kept.Goals as goal

pub returns : goal.returns
returns c = issued-kept
