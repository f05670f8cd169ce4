use Rattle.firm_figures.proofs.Names.{◌≡◌, take, added}
use Rattle.firm_figures.specs.declared.clients_sink.ClientLine.{ClientLine}
use Rattle.std.proofs.Common.{fold}
use Rattle.firm_figures.proofs.clients_sink.total_of.Given as goal

-- the sum so far
abbrev pub invariant-loop-line : goal.invariant-loop-line
invariant-loop-line l = l.total ≡ fold (λ z (x : ClientLine). added z x.ledger) l.own (take l.line-index l.lines)
