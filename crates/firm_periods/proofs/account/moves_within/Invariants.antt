use Rattle.firm_periods.proofs.Names.{◌≡◌, filter, take}
use Rattle.firm_periods.specs.Named.{is_within}
use Rattle.firm_periods.specs.Accounts.{kept_moves}
use Rattle.firm_periods.proofs.account.moves_within.Given as goal

-- the movements so far
abbrev pub invariant-loop-one : goal.invariant-loop-one
invariant-loop-one l =
    l.moves.items
    ≡ filter (λ v. is_within l.fn.period.from l.fn.period.to v.moved) (kept_moves (take l.one-index l.kept))
