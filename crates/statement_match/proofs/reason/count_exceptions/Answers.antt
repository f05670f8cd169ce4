use Rattle.statement_match.proofs.Names.{◌∙◌, is_named_like, counted_kept}
use Rattle.statement_match.proofs.reason.count_exceptions.Goals as goal

pub returns : goal.returns
returns c =
    let grounds = c.args.grounds.now in
    let test = is_named_like grounds.line in
    (rw c.line.ensures at c.count_exceptions_among.ensures)
    ∙ counted_kept test test (λ e is. is) c.exceptions.result.now grounds.known.exceptions c.exceptions.ensures
