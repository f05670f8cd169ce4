use Rattle.matter_parts.proofs.Names.{arith}
use Rattle.matter_parts.proofs.Keepers.{small-after}
use Rattle.matter_parts.proofs.matter.Matter.keep.Goals as goal

pub invariant_of-self-2 : goal.invariant_of-self-2
invariant_of-self-2 c = grind (arith, small-after)
