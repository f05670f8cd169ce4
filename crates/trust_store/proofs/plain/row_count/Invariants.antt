use Rattle.trust_store.proofs.Names.{◌≡◌, ◌≤◌, ◌+◌, drop, length, MOST_ROWS, joined}
use Rattle.trust_store.proofs.plain.row_count.Given as goal

-- what was counted, and what is left
abbrev pub invariant-loop-k : goal.invariant-loop-k
invariant-loop-k l = record { counted : l.count + length (joined (drop l.k-index l.kept)) ≡ length (joined l.kept); few : l.count ≤ MOST_ROWS }
