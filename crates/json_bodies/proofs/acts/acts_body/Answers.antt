use Rattle.json_bodies.proofs.Names.{◌∙◌, print-outline}
use Rattle.json_bodies.specs.Acts.{acts_object}
use Rattle.json_bodies.proofs.acts.acts_body.Goals as goal

pub returns : goal.returns
returns c =
    (rw (c.in_ok-write_acts_object.ensures.tokens, c.write_acts_object.ensures.before, c.in_ok-out.ensures.before, c.in_ok-out.ensures.tokens) at c.into_inner.ensures.items)
    ∙ print-outline (acts_object c.args.acts.now)
