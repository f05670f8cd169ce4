use Rattle.matter_parts.proofs.Names.{arith}
use Rattle.matter_parts.proofs.WholeRows.{lefts-within}
use Rattle.matter_parts.proofs.matter.Matter.of_part.Goals as goal

pub made-requires : goal.made-requires
made-requires c = grind (arith, lefts-within)
