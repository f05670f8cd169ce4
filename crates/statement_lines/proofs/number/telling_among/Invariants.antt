use Rattle.statement_lines.proofs.Names.{◌≡◌, ◌++◌, [], drop, telling_after}
use Rattle.statement_lines.proofs.number.telling_among.Given as goal

abbrev pub invariant-loop-token : goal.invariant-loop-token
invariant-loop-token l =
    telling_after l.date [] [] l.tokens ≡ l.found.items ++ telling_after l.date l.second l.last (drop l.token-index l.tokens)
