use Rattle.json_bodies.proofs.bodies.write_fee.Goals as goal

pub returns-clause-tokens : goal.returns-clause-tokens
returns-clause-tokens c = rw (c.get.ensures.value, c.label.ensures) at c.write_object.ensures.tokens
