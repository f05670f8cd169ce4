use Rattle.matter_rows.proofs.Names.{◌↔◌, ◌-◌, drop, AreInOrder}
use Rattle.matter_rows.proofs.Tested.{AreChained}
use Rattle.matter_rows.proofs.soundness.are_in_order.Given as goal

abbrev pub invariant-loop-place : goal.invariant-loop-place
invariant-loop-place l = AreInOrder l.seats ↔ AreChained (drop (l.place - 1) l.seats)
