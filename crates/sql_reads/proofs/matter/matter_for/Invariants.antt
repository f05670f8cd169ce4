use Rattle.sql_reads.proofs.Names.{◌≡◌, false, state, HasCleanDisk, Layout, lists_in, StandsSound, part_at}
use Rattle.sql_reads.proofs.Going.{AllLeft}
use Rattle.sql_reads.proofs.NamedEntries.{KeepsOnly, is_read}
use Rattle.sql_reads.proofs.matter.matter_for.Given as goal

-- the connection shows what it showed, and the entries of the turns so far are kept
abbrev pub invariant-turns : goal.invariant-turns
invariant-turns g l = record {
  mode : l.conn.in_transaction ≡ false;
  clean : HasCleanDisk (state g.S.Store l.conn) → HasCleanDisk (state g.S.Store l.initial.conn);
  left : AllLeft (state g.S.Store l.fn.conn) (state g.S.Store l.conn);
  kept : (y : Layout) → HasCleanDisk (state g.S.Store l.conn) → StandsSound y (state g.S.Store l.fn.conn).now
      → KeepsOnly (is_read (part_at l.matter (lists_in y (state g.S.Store l.fn.conn).now.trees)) l.entry l.other l.turn)
      (part_at l.matter (lists_in y (state g.S.Store l.fn.conn).now.trees)).kept l.kept.items;
}
