use Rattle.sql_reads.proofs.Names.{◌≡◌}
use Rattle.sql_reads.proofs.Readable.{ReadTo}
use Rattle.sql_reads.proofs.lists.hand_readable.Given as goal

-- the rows so far were read, and counted
abbrev pub invariant-each : goal.invariant-each
invariant-each g l =
    ReadTo g.K.RowSink.taken l.rows l.row-index l.unread.items l.fn.sink l.sink × (l.number ≡ l.row-index)
