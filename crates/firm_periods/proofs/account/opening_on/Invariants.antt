use Rattle.firm_periods.proofs.Names.{◌≡◌, ◌*◌, take}
use Rattle.firm_periods.specs.Accounts.{IsSumMoved, kept_moves, moved_before}
use Rattle.firm_periods.proofs.account.opening_on.Given as goal

-- the sum so far
abbrev pub invariant-loop-one : goal.invariant-loop-one
invariant-loop-one l = record {
  sum : l.sum ≡ moved_before l.fn.day (kept_moves (take l.one-index l.kept));
  small : IsSumMoved (2 * l.one-index) l.sum;
}
