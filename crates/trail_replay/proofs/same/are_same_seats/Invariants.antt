use Rattle.std.proofs.Common.{◌≡◌, length, take}
use Rattle.trail_replay.proofs.same.are_same_seats.Given as goal

abbrev pub invariant-loop-place : goal.invariant-loop-place
invariant-loop-place l = record {
  long : length l.seats ≡ length l.others;
  same : take l.place l.seats ≡ take l.place l.others;
}
