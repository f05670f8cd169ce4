use Rattle.matter_parts.proofs.FoundSmall.{found-small}
use Rattle.matter_parts.proofs.matter.Matter.find.Goals as goal

pub returns-clause-small : goal.returns-clause-small
returns-clause-small c = found-small _ _ c.found.ensures (c.self.invariant.lefts _)
