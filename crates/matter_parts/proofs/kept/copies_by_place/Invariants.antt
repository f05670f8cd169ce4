use Rattle.matter_parts.proofs.Names.{◌-◌, length, has_number}
use Rattle.matter_parts.proofs.ByPlace.{AreCopiedTo}
use Rattle.matter_parts.proofs.kept.copies_by_place.Given as goal

abbrev pub invariant-loop-place : goal.invariant-loop-place
invariant-loop-place l = AreCopiedTo (has_number l.named) l.kept l.place l.copies.items

abbrev pub decreases-loop-place : goal.decreases-loop-place
decreases-loop-place l = length l.initial.kept - l.place
