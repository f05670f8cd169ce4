use Rattle.statement_lines.proofs.Names.{◌-◌, take, drop, arith, begins_with_reference}
use Rattle.statement_lines.proofs.Parting.{reference_found, reference_later}
use Rattle.statement_lines.proofs.statement_line.has_reference.Goals as goal

pub returns-then-begins_with_reference : goal.returns-then-begins_with_reference
returns-then-begins_with_reference c = grind (arith, begins_with_reference, take, drop, reference_found)

pub loop-place-preserved : goal.loop-place-preserved
loop-place-preserved c = grind (arith, begins_with_reference, take, drop, reference_later)
