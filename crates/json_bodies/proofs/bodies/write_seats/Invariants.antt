use Rattle.json_bodies.proofs.Names.{◌≡◌, ◌++◌, drop, map, array_of, value_tokens, seat_object}
use Rattle.json_bodies.proofs.ObjectFacts.{seats_rest}
use Rattle.json_bodies.proofs.bodies.write_seats.Given as goal

abbrev pub invariant-loop-seat : goal.invariant-loop-seat
invariant-loop-seat l = record {
  before : l.out.before ≡ l.fn.out.before;
  tokens : l.out.tokens ++ seats_rest (drop l.seat-index l.seats) ≡ l.fn.out.tokens ++ value_tokens (array_of (map seat_object l.seats));
}
