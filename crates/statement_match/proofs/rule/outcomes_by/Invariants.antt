use Rattle.statement_match.proofs.Names.{◌≡◌, take, map, becomes}
use Rattle.statement_match.proofs.rule.outcomes_by.Given as goal

abbrev pub invariant-loop-line : goal.invariant-loop-line
invariant-loop-line l =
    l.found.items ≡ map (becomes l.today l.index.held l.index.lines) (take l.line-index l.line-items)
