use Rattle.json_bodies.proofs.bodies.write_payment.Goals as goal

pub returns-clause-tokens : goal.returns-clause-tokens
returns-clause-tokens c =
    rw (c.get.ensures.value, c.bank_day.ensures, c.bank_ref.ensures, c.fund_name.ensures, c.label.ensures, c.day_or_null.ensures, c.entry_or_null.ensures, c.fund_entry.ensures, c.label-2.ensures, c.label-3.ensures, c.day_or_null-2.ensures, c.payment_told-issued.ensures.name, c.payment_told-issued.ensures.issued, c.payment_told-issued.ensures.clearing, c.payment_told-issued.ensures.undone) at c.write_object.ensures.tokens
