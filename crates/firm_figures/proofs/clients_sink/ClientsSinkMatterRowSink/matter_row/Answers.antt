use Rattle.firm_figures.proofs.clients_sink.ClientsSinkMatterRowSink.matter_row.Goals as goal

pub returns-in-Entry-clause-ok : goal.returns-in-Entry-clause-ok
returns-in-Entry-clause-ok c = rw c.in-Entry.is (c.see_entry.ensures c.in-Entry.field-0)
