use Rattle.firm_rows.specs.Countable.{IsRowInRange}
use Rattle.firm_rows.specs.Handing.{row_pair}
use Rattle.firm_rows.proofs.Handed.{HandedSoFar}
use Rattle.firm_rows.proofs.handing.hand_rows.Given as goal

abbrev pub invariant-loop-row : goal.invariant-loop-row
invariant-loop-row g l = HandedSoFar (λ s r. g.S.MatterRowSink.taken s (row_pair r)) (λ r. IsRowInRange (row_pair r)) l.fn.sink l.rows l.row-index l.sink
