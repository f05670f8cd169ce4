use Rattle.json_bodies.proofs.bodies.write_deposit.Goals as goal

pub returns-clause-tokens : goal.returns-clause-tokens
returns-clause-tokens c =
    rw (c.get.ensures.value, c.bank_day.ensures, c.bank_ref.ensures, c.label.ensures, c.bank_day-2.ensures, c.bank_ref-2.ensures, c.label-2.ensures, c.day_or_null.ensures, c.deposit_told-undone.ensures.name, c.deposit_told-undone.ensures.clearing, c.deposit_told-undone.ensures.returning, c.deposit_told-undone.ensures.undone) at c.write_object.ensures.tokens
