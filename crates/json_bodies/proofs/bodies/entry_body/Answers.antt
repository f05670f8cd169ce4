use Rattle.json_bodies.proofs.Names.{◌∙◌, pos, print-outline}
use Rattle.json_bodies.specs.Bodies.{entry_object}
use Rattle.json_bodies.proofs.bodies.entry_body.Goals as goal

pub returns : goal.returns
returns c =
    (rw (c.in_ok-write_entry.ensures.tokens, c.write_entry.ensures.before, c.in_ok-out.ensures.before, c.in_ok-out.ensures.tokens) at c.into_inner.ensures.items)
    ∙ print-outline (entry_object c.args.matter c.args.number c.args.entry.now (pos c.args.left))
