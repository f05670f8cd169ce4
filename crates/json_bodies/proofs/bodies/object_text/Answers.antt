use Rattle.json_bodies.proofs.Names.{◌∙◌, map, object_of, member_of, print-outline}
use Rattle.json_bodies.proofs.bodies.object_text.Goals as goal

pub returns : goal.returns
returns c =
    (rw (c.in_ok-write_object.ensures.tokens, c.write_object.ensures.before, c.in_ok-out.ensures.before, c.in_ok-out.ensures.tokens) at c.into_inner.ensures.items) ∙ print-outline (object_of (map member_of c.args.members.now))
