use Rattle.statement_lines.proofs.Names.{◌≡◌, ◌++◌, drop, window_marks}
use Rattle.statement_lines.proofs.mark.add_windows.Given as goal

abbrev pub invariant-loop-place : goal.invariant-loop-place
invariant-loop-place l = l.fn.marks.items ++ window_marks l.text ≡ l.marks.items ++ window_marks (drop l.place l.text)
