use Rattle.statement_match.proofs.Names.{◌≡◌, ◌++◌, map, take, elements}
use Rattle.statement_match.proofs.entry_index.add_found.Given as goal

abbrev pub invariant-loop-mark : goal.invariant-loop-mark
invariant-loop-mark l =
    l.places.items ≡ l.fn.places.items ++ map (λ m. m.1) (elements (take l.mark-index l.found))
