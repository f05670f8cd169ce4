use Rattle.statement_match.proofs.Names.{◌≡◌, ◌*◌, ◌^◌, pos, ◌+ℤ◌, ◌≤ℤ◌, take, filter, booking_of, is_beside, total_of, elements}
use Rattle.statement_match.proofs.rule.sum_beside.Given as goal

abbrev pub invariant-loop-entry : goal.invariant-loop-entry
invariant-loop-entry l = record {
  sum : l.total ≡ total_of (filter (is_beside (booking_of l.line)) (take l.entry-index (elements l.bookings)));
  low : pos 0 ≤ℤ (l.total +ℤ pos (l.entry-index * 2 ^ 63));
  high : l.total ≤ℤ pos (l.entry-index * 2 ^ 63);
}
