use Rattle.matter_parts.proofs.Naming.{has-named}
use Rattle.matter_parts.proofs.matter.Matter.named.Goals as goal

pub returns : goal.returns
returns c = search (has-named)
