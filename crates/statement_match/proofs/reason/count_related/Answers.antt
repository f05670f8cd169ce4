use Rattle.statement_match.proofs.Names.{◌∙◌, stands, counted_kept}
use Rattle.statement_match.proofs.reason.count_related.Goals as goal

pub returns : goal.returns
returns c =
    let grounds = c.args.grounds.now in
    let test = stands c.args.relation c.args.today grounds.line in
    (rw c.line.ensures at c.count_related_among.ensures)
    ∙ counted_kept test test (λ e is. is) c.candidates.result.now grounds.known.entries (c.candidates.ensures c.args.today)
