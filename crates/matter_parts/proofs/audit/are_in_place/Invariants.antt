use Rattle.matter_parts.proofs.Names.{◌↔◌, ◌+◌, drop, AreInPlace}
use Rattle.matter_parts.proofs.audit.are_in_place.Given as goal

abbrev pub invariant-loop-place : goal.invariant-loop-place
invariant-loop-place l = AreInPlace l.entries 1 l.kept ↔ AreInPlace l.entries (l.place + 1) (drop l.place l.kept)
