use Rattle.json_bodies.proofs.listed.write_listed_with.Goals as goal

pub returns-clause-tokens : goal.returns-clause-tokens
returns-clause-tokens c = rw (c.client_of.ensures, c.closing_day.ensures, c.ledger.ensures, c.opening_day.ensures, c.role.ensures) at c.write_object.ensures.tokens
