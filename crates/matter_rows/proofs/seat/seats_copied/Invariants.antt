use Rattle.matter_rows.proofs.Names.{◌≡◌, take}
use Rattle.matter_rows.proofs.seat.seats_copied.Given as goal

abbrev pub invariant-loop-seat : goal.invariant-loop-seat
invariant-loop-seat l = l.copies.items ≡ take l.seat-index l.seats
