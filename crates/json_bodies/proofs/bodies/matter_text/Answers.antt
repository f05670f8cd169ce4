use Rattle.json_bodies.proofs.bodies.matter_text.Goals as goal

pub returns : goal.returns
returns c = rw (c.client.ensures, c.day_or_null.ensures, c.closed_on.ensures, c.opened.ensures) at c.object_text.ensures
