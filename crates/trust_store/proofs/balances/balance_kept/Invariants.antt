use Rattle.trust_store.proofs.Names.{◌≡◌, drop, kept_balance}
use Rattle.trust_store.proofs.balances.balance_kept.Given as goal

-- it is not among those that were passed
abbrev pub invariant-loop-row : goal.invariant-loop-row
invariant-loop-row l = kept_balance l.kind l.day l.rows ≡ kept_balance l.kind l.day (drop l.row-index l.rows)
