use Rattle.statement_lines.proofs.Names.{rules, amount_key}
use Rattle.statement_lines.proofs.index.Index.waiting_of.Goals as goal

pub returns : goal.returns
returns c = search (rules, amount_key)
