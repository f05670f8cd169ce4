use Rattle.firm_figures.proofs.reconciliation.ReconciliationSinkMatterRowSink.matter_row.Goals as goal

pub returns-in-Head-clause-ok : goal.returns-in-Head-clause-ok
returns-in-Head-clause-ok c = rw c.in-Head.is (c.see_head.ensures c.args.matter)
