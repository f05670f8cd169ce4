use Rattle.firm_figures.proofs.Names.{arith, rules, append_assoc, common_steps}
use Rattle.firm_figures.proofs.EntryDays.{line-if}
use Rattle.firm_figures.proofs.reconciliation.ReconciliationSink.list_entry.Goals as goal

pub returns-clause-ok : goal.returns-clause-ok
returns-clause-ok c = first_of (search (rules, line-if, append_assoc) depth 12, grind (arith, common_steps, line-if))
