use Rattle.firm_audit.proofs.Names.{◌≡◌, ℕ, ◌≤◌, take, balance_of, IsOwnBalance}
use Rattle.firm_audit.proofs.own_money.outside.Given as goal

abbrev pub invariant-loop-line : goal.invariant-loop-line
invariant-loop-line l = record {
  place : l.place ≡ l.line-index;
  sum : l.balance ≡ balance_of (take l.line-index l.lines);
  within : (k : ℕ) → k ≤ l.line-index → IsOwnBalance (balance_of (take k l.lines));
}
