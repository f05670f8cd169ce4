use Rattle.statement_match.proofs.Names.{◌∙◌, stands, first_kept}
use Rattle.statement_lines.specs.declared.relation.Relation.TheVariants as relation
use Rattle.statement_match.proofs.reason.fitted.Goals as goal

pub returns : goal.returns
returns c =
    let grounds = c.args.grounds.now in
    let test = stands relation.Fitted c.args.today grounds.line in
    (rw c.line.ensures at c.fitted_among.ensures)
    ∙ first_kept test test (λ e is. is) c.candidates.result.now grounds.known.entries (c.candidates.ensures c.args.today)
