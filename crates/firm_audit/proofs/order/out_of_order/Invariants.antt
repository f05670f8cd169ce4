use Rattle.firm_audit.proofs.Neighbours.{AreBefore}
use Rattle.firm_audit.proofs.order.out_of_order.Given as goal

abbrev pub invariant-loop-place : goal.invariant-loop-place
invariant-loop-place g l = AreBefore g.T.Sorted.before l.place l.rows
