use Rattle.trust_store.proofs.Names.{◌≡◌, take}
use Rattle.trust_store.proofs.all_rows.copies.Given as goal

abbrev pub invariant-loop-row : goal.invariant-loop-row
invariant-loop-row g l = l.copies.items ≡ take l.row-index l.rows
