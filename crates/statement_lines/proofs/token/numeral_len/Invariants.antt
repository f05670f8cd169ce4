use Rattle.statement_lines.proofs.Names.{◌≡◌, ◌+◌, drop, numeral_length}
use Rattle.statement_lines.proofs.token.numeral_len.Given as goal

abbrev pub invariant-loop-place : goal.invariant-loop-place
invariant-loop-place l = numeral_length l.text ≡ l.place + numeral_length (drop l.place l.text)
