use Rattle.matter_parts.proofs.Names.{arith}
use Rattle.matter_parts.proofs.ByPlace.{kept-at-place, kept-nowhere}
use Rattle.matter_parts.proofs.kept.found.Goals as goal

pub returns-in-None : goal.returns-in-None
returns-in-None c = kept-nowhere c.args.kept.now c.args.number c.in-None.ensures

pub returns-in-Some : goal.returns-in-Some
returns-in-Some c = grind (arith, kept-at-place)
