use Rattle.statement_match.proofs.Names.{◌∙◌, ◌==◌, fits, waiting_key, amount_key, fits_narrows, first_found}
use Rattle.statement_match.proofs.rule.first_fit.Goals as goal

pub returns : goal.returns
returns c =
    let line = c.args.line.now in
    let same = rw c.line.ensures at c.waiting_of.ensures in
    c.first_fit_among.ensures
    ∙ first_found (fits c.args.today line) (λ w. waiting_key w == amount_key line) (fits_narrows c.args.today line)
    c.waiting_of.result.now c.args.index.now.held.waiting same
