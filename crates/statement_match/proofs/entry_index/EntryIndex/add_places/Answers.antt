use Rattle.statement_match.proofs.Names.{◌∙◌, ap, elements}
use Rattle.statement_match.proofs.entry_index.EntryIndex.add_places.Goals as goal

pub returns : goal.returns
returns c =
    rw (ap elements c.at.ensures ∙ c.self.invariant.marks_found c.args.mark, c.self.view_is) at c.add_found.ensures
