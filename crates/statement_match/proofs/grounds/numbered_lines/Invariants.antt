use Rattle.statement_match.proofs.Names.{◌≡◌, ◌++◌, drop, numbered, plain_pairs}
use Rattle.statement_match.proofs.grounds.numbered_lines.Given as goal

abbrev pub invariant-loop-place : goal.invariant-loop-place
invariant-loop-place l =
    numbered l.records.numbers 0 l.records.lines
    ≡ plain_pairs l.found.items ++ numbered l.records.numbers l.place (drop l.place l.records.lines)
