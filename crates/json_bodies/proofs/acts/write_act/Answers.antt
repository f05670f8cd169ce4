use Rattle.json_bodies.proofs.acts.write_act.Goals as goal

pub returns-clause-tokens : goal.returns-clause-tokens
returns-clause-tokens c =
    rw (c.caller.ensures, c.deed_name.ensures, c.entry_or_null.ensures, c.person_or_null.ensures, c.person_seated.ensures, c.role_or_null.ensures, c.role_given.ensures, c.cents_or_null.ensures, c.part_offered.ensures) at c.write_object.ensures.tokens
