use Rattle.statement_lines.proofs.writing.write_named.Goals as goal

pub returns : goal.returns
returns g c = rw (c.field.ensures, c.as_slice.ensures.value, c.field-2.ensures, c.field-3.ensures, c.field-4.ensures) at c.write_fields.ensures
