use Rattle.matter_parts.proofs.Names.{has_number, arith}
use Rattle.matter_parts.proofs.ByPlace.{copied-none, copied-more, copied-all}
use Rattle.matter_parts.proofs.kept.copies_by_place.Goals as goal

pub loop-place-init : goal.loop-place-init
loop-place-init c = grind (arith, copied-none)

pub loop-place-preserved : goal.loop-place-preserved
loop-place-preserved c = grind (arith, copied-more)

pub returns : goal.returns
returns c = copied-all (has_number c.args.named) c.args.kept.now c.loop-place.place c.loop-place.copies.items c.loop-place.invariant c.loop-place-test.false
