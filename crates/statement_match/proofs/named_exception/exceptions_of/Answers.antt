use Rattle.statement_match.proofs.named_exception.exceptions_of.Goals as goal

pub returns : goal.returns
returns c =
    let listed = rw c.exceptions.ensures at c.in_ok-listed.ensures in
    λ i. record { listed = listed i; count = c.count_exceptions-count.ensures i }
