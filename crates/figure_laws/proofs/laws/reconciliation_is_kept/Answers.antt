use Rattle.figure_laws.proofs.ReconciliationRows.{reconciliation-kept}
use Rattle.figure_laws.proofs.laws.reconciliation_is_kept.Goals as goal

pub returns : goal.returns
returns c = reconciliation-kept
