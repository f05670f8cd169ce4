use Rattle.firm_figures.proofs.Names.{◌≡◌, take, added, TrialLine}
use Rattle.std.proofs.Common.{fold}
use Rattle.firm_figures.proofs.trial_sink.total_of.Given as goal

-- the sum so far
abbrev pub invariant-loop-line : goal.invariant-loop-line
invariant-loop-line l = l.total ≡ fold (λ z (x : TrialLine). added z x.ledger) l.own (take l.line-index l.lines)
