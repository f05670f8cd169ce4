use Rattle.sql_reads.proofs.Names.{ap, ◌∙◌, Kept, EntryRow}
use Rattle.sql_reads.proofs.matter.EntryTakingRowTaking.take.Goals as goal

pub returns-clause-ok : goal.returns-clause-ok
returns-clause-ok g c =
    c.in_ok-told.ensures.ok
    ∙ ap (λ (k : Kept). g.K.MatterRowSink.taken c.args.sink.now (c.args.self.now.matter, EntryRow k.number k.entry))
    c.in_ok-kept.ensures
