use Rattle.firm_periods.proofs.Names.{◌≡◌, take, fold, added, pos}
use Rattle.firm_periods.specs.declared.moved.NamedMove.{NamedMove}
use Rattle.firm_periods.proofs.named_sink.sum_of.Given as goal

-- the sum so far
abbrev pub invariant-loop-line : goal.invariant-loop-line
invariant-loop-line l = l.sum ≡ fold (λ z (v : NamedMove). added z v.moved.amount) (pos 0) (take l.line-index l.lines)
