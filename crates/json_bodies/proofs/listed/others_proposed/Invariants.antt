use Rattle.json_bodies.proofs.Names.{◌≡◌, ◌*◌, ◌^◌, ◌+ℤ◌, ◌≤ℤ◌, drop, pos, total_of, entries_kept, proposed_on}
use Rattle.json_bodies.proofs.listed.others_proposed.Given as goal

abbrev pub invariant-loop-one : goal.invariant-loop-one
invariant-loop-one l = record {
  sum : (l.sum +ℤ total_of (proposed_on l.payment.fund) (entries_kept (drop l.one-index l.kept))) ≡ total_of (proposed_on l.payment.fund) (entries_kept l.kept);
  low : pos 0 ≤ℤ l.sum;
  high : l.sum ≤ℤ pos (l.one-index * 2 ^ 64);
}
