use Rattle.statement_lines.proofs.Names.{◌≡◌, ◌++◌, drop, tokens, tokens_after}
use Rattle.statement_lines.proofs.token.tokens_of.Given as goal

abbrev pub invariant-loop-place : goal.invariant-loop-place
invariant-loop-place l = tokens l.text ≡ l.found.items ++ tokens_after l.second l.last (drop l.place l.text)
