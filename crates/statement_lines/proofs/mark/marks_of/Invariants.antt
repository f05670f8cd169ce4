use Rattle.statement_lines.proofs.Names.{◌≡◌, ◌++◌, drop, marks_from}
use Rattle.statement_lines.proofs.mark.marks_of.Given as goal

abbrev pub invariant-loop-place : goal.invariant-loop-place
invariant-loop-place l = marks_from 0 l.entries ≡ l.marks.items ++ marks_from l.place (drop l.place l.entries)
