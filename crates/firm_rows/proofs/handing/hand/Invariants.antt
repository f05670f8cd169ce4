use Rattle.firm_rows.proofs.Handed.{HandedSoFar}
use Rattle.firm_rows.proofs.handing.hand.Given as goal

abbrev pub invariant-loop-row : goal.invariant-loop-row
invariant-loop-row g l = HandedSoFar g.S.RowSink.taken g.T.Countable.IsInRange l.fn.sink l.rows l.row-index l.sink
