use Rattle.matter_parts.proofs.Names.{◌≡◌, take}
use Rattle.matter_parts.proofs.kept.kept_copied.Given as goal

abbrev pub invariant-loop-one : goal.invariant-loop-one
invariant-loop-one l = l.copies.items ≡ take l.one-index l.kept
