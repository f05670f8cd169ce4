use Rattle.statement_match.proofs.Names.{◌≡◌, take, flat_map, places_with}
use Rattle.statement_match.proofs.entry_index.EntryIndex.places.Given as goal

abbrev pub invariant-loop-mark : goal.invariant-loop-mark
invariant-loop-mark l = l.places.items ≡ flat_map (places_with l.self) (take l.mark-index l.marks)
