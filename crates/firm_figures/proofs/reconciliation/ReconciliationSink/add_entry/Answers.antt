use Rattle.firm_figures.proofs.Names.{rules}
use Rattle.firm_figures.proofs.EntryDays.{shares}
use Rattle.firm_figures.proofs.reconciliation.ReconciliationSink.add_entry.Goals as goal

pub returns : goal.returns
returns c = search (rules, shares) depth 12
