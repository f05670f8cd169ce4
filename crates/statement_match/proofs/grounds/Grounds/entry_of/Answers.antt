use Rattle.statement_match.proofs.Names.{◌∙◌, ◌==◌, reference_key, text_key, names, first_found}
use Rattle.statement_match.proofs.EntriesKept.{named_alike}
use Rattle.statement_match.proofs.grounds.Grounds.entry_of.Goals as goal

pub returns : goal.returns
returns c =
    let line = c.args.line.now in
    rw (← c.self.view_is, ← c.self.invariant.same_entries)
    (c.first_named.ensures
    ∙ first_found (names line) (λ e. reference_key e == text_key 0 line.reference) (named_alike line)
    c.named_by.result.now c.self.inside.entries c.named_by.ensures)
