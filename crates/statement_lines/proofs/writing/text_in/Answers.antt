use Rattle.statement_lines.proofs.Names.{◌∙◌, ap, ℕ, List, [], Option, unwrap_or}
use Rattle.statement_lines.proofs.writing.text_in.Goals as goal

pub returns : goal.returns
returns c = λ text h. c.in-Ok.ensures.ok ∙ ap (λ (o : Option (List ℕ)). unwrap_or o []) h.held
