use Rattle.firm_audit.proofs.Names.{◌≡◌, ℕ, ◌*◌, ◌≤◌, take, pos, ◌≤ℤ◌, moved_sum}
use Rattle.firm_audit.proofs.matter_journal.covered_sum.Given as goal

abbrev pub invariant-loop-movement : goal.invariant-loop-movement
invariant-loop-movement l = record {
  sum : l.sum ≡ moved_sum (take l.movement-index l.own);
  covered : (k : ℕ) → k ≤ l.movement-index → pos 0 ≤ℤ moved_sum (take k l.own);
  low : pos 0 ≤ℤ l.sum;
  high : l.sum ≤ℤ pos (9_223_372_036_854_775_808 * l.movement-index);
}
