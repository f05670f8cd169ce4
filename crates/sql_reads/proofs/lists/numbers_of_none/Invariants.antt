use Rattle.sql_reads.proofs.Names.{◌≡◌}
use Rattle.sql_reads.proofs.NoDismissals.{ToldTo}
use Rattle.sql_reads.proofs.lists.numbers_of_none.Given as goal

-- the rows so far were read, and counted
abbrev pub invariant-each : goal.invariant-each
invariant-each l = ToldTo l.rows l.row-index l.unread.items × (l.place ≡ l.row-index)
