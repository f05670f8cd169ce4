use Rattle.statement_lines.proofs.Names.{rules, waiting_key}
use Rattle.statement_lines.proofs.index.Index.lines_of_amount.Goals as goal

pub returns : goal.returns
returns c = search (rules, waiting_key)
