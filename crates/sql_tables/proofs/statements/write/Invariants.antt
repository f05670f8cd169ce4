use Rattle.sql_tables.proofs.Names.{◌≡◌, true, take, HasRun}
use Rattle.sql_tables.proofs.statements.write.Given as goal

abbrev pub invariant-each : goal.invariant-each
invariant-each g l = (l.tx.conn.ghost_name ≡ l.initial.tx.conn.ghost_name) × HasRun g.S.Store (take l.statement-index l.script) (record l.fn.conn { in_transaction = true }) l.tx.conn.now
