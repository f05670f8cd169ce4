use Rattle.statement_match.proofs.Names.{◌≡◌, take, flat_map, option_to_list, slice_get, elements}
use Rattle.statement_match.proofs.entry_index.entries_at.Given as goal

abbrev pub invariant-loop-place : goal.invariant-loop-place
invariant-loop-place l =
    elements l.found.items
    ≡ flat_map (λ place. option_to_list (slice_get l.fn.entries place)) (take l.place-index l.places)
