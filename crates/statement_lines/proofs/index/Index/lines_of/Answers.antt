use Rattle.statement_lines.proofs.Names.{refl}
use Rattle.statement_lines.proofs.index.Index.lines_of.Goals as goal

pub returns : goal.returns
returns c = rw (← c.self.view_is, c.at.ensures, c.self.invariant.beside_found c.line_key.result, c.line_key.ensures) refl
