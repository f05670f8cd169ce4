use Rattle.firm_figures.proofs.Names.{rules}
use Rattle.firm_figures.proofs.reconciliation.ReconciliationSink.finish.Goals as goal

pub returns : goal.returns
returns c = λ up. search rules depth 12
