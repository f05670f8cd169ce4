use Rattle.sql_reads.proofs.Names.{◌≡◌, false, map, AllByRecursion, IsKeptWhole, take, state, HasCleanDisk, Layout, lists_in, heads_in, Stands, numbered_at, AreNumbersOf}
use Rattle.sql_reads.proofs.Going.{AllLeft}
use Rattle.sql_reads.proofs.firm.all_matters.Given as goal

-- the connection shows what it showed, and these are the matters so far
abbrev pub invariant-each : goal.invariant-each
invariant-each g l = record {
  mode : l.conn.in_transaction ≡ false;
  left : AllLeft (state g.S.Store l.fn.conn) (state g.S.Store l.conn);
  are : (y : Layout) → HasCleanDisk (state g.S.Store l.conn) → Stands y (state g.S.Store l.fn.conn).now
      → AreNumbersOf (heads_in y (state g.S.Store l.fn.conn).now.trees) l.number-items;
  read : (y : Layout) → HasCleanDisk (state g.S.Store l.conn) → Stands y (state g.S.Store l.fn.conn).now
      → l.matters.items
      ≡ map (numbered_at (lists_in y (state g.S.Store l.fn.conn).now.trees)) (take l.number-index l.number-items);
  whole : AllByRecursion IsKeptWhole l.matters.items;
}
