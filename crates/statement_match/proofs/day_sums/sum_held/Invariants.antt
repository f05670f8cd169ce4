use Rattle.statement_match.proofs.Names.{◌≡◌, ◌*◌, ◌^◌, pos, ◌+ℤ◌, ◌≤ℤ◌, take, filter, sum_of, is_held, elements, amount_of}
use Rattle.statement_match.proofs.day_sums.sum_held.Given as goal

abbrev pub invariant-loop-entry : goal.invariant-loop-entry
invariant-loop-entry l = record {
  sum : l.sum ≡ sum_of amount_of (filter (λ e. is_held e.state) (take l.entry-index (elements l.found)));
  low : pos 0 ≤ℤ (l.sum +ℤ pos (l.entry-index * 2 ^ 63));
  high : l.sum ≤ℤ pos (l.entry-index * 2 ^ 63);
}
