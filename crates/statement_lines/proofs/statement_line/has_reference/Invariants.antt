use Rattle.statement_lines.proofs.Names.{◌≡◌, drop, has_reference_text}
use Rattle.statement_lines.proofs.statement_line.has_reference.Given as goal

abbrev pub invariant-loop-place : goal.invariant-loop-place
invariant-loop-place l = has_reference_text l.reference l.text ≡ has_reference_text l.reference (drop l.place l.text)
