use Rattle.statement_match.proofs.candidate.candidates_of.Goals as goal

pub returns : goal.returns
returns c =
    let listed = rw (c.line.ensures, c.candidates-found.ensures c.args.today) at c.in_ok-listed.ensures in
    λ i. record { listed = listed i; count = c.count_related-count.ensures i }
