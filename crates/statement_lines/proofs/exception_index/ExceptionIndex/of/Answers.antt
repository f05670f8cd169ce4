use Rattle.statement_lines.proofs.Names.{rules, line_key}
use Rattle.statement_lines.proofs.exception_index.ExceptionIndex.of.Goals as goal

pub invariant_of-result : goal.invariant_of-result
invariant_of-result c = c.in_ok-found.ensures line_key (λ x r k. search rules)
