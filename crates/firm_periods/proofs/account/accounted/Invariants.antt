use Rattle.firm_periods.proofs.Names.{◌≡◌, ◌+◌, take}
use Rattle.std.specs.Prelude.{◌^◌}
use Rattle.firm_periods.specs.Accounts.{IsSumMoved, account_from, closing_from}
use Rattle.firm_periods.proofs.account.accounted.Given as goal

-- the lines so far, and the ledger after them
abbrev pub invariant-loop-one : goal.invariant-loop-one
invariant-loop-one l = record {
  lines : l.lines.items ≡ account_from l.fn.opening (take l.one-index l.all);
  ledger : l.ledger ≡ closing_from l.fn.opening (account_from l.fn.opening (take l.one-index l.all));
  small : IsSumMoved (2 ^ 64 + l.one-index) l.ledger;
}
