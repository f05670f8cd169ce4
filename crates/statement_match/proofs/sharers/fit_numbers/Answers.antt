use Rattle.statement_match.proofs.Names.{◌∙◌}
use Rattle.statement_match.proofs.NumberedLines.{fit_found}
use Rattle.statement_match.proofs.sharers.fit_numbers.Goals as goal

pub returns : goal.returns
returns c =
    let records = c.args.grounds.now.records in
    c.in_ok-numbers.ensures
    ∙ fit_found c.args.today c.args.entry.now records.numbers records.lines c.lines_of_amount-found.result.now
    c.lines_of_amount-found.ensures
