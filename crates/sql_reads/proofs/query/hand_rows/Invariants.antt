use Rattle.sql_reads.proofs.Names.{◌≡◌, false, state, HasCleanDisk, Survives, bound}
use Rattle.sql_reads.proofs.Streams.{Gave}
use Rattle.sql_reads.proofs.query.hand_rows.Given as goal

abbrev pub invariant-rows : goal.invariant-rows
invariant-rows g l = record {
  same : l.rows.conn.ghost_name ≡ l.initial.rows.conn.ghost_name;
  mode : l.rows.conn.now.in_transaction ≡ false;
  survives : Survives (state g.S.Store l.fn.conn) (state g.S.Store l.rows.conn.now) (λ _. ⊥);
  gave : HasCleanDisk (state g.S.Store l.rows.conn.now)
      → Gave g.S.Store (g.T.RowTaking.taken l.taking) (g.T.RowTaking.fits l.taking)
      l.sql (bound l.params) (state g.S.Store l.fn.conn) l.fn.sink l.rows.conn.now l.count l.sink;
}
