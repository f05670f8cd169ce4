use Rattle.sql_reads.proofs.Names.{◌≡◌, false, ◌≤◌, state, HasCleanDisk, MOST_ROWS, Layout, lists_in, StandsSound}
use Rattle.sql_reads.proofs.Going.{GoesOn}
use Rattle.sql_reads.proofs.Walk.{IsReached}
use Rattle.sql_reads.proofs.matter.each_row.Given as goal

-- the connection shows what it showed, and the matters up to a number were handed over
abbrev pub invariant-matters : goal.invariant-matters
invariant-matters g l = record {
  mode : l.conn.in_transaction ≡ false;
  on : GoesOn (state g.S.Store l.fn.conn) (state g.S.Store l.conn);
  few : l.count ≤ MOST_ROWS;
  reached : (y : Layout) → HasCleanDisk (state g.S.Store l.conn) → StandsSound y (state g.S.Store l.fn.conn).now
      → IsReached g.K.MatterRowSink.taken (lists_in y (state g.S.Store l.fn.conn).now.trees) l.after l.count l.fn.sink
      l.sink;
}
