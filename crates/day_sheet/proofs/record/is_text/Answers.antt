use Rattle.day_sheet.proofs.Names.{sym}
use Rattle.std.proofs.lemmas.Str.{is_utf8-from_IsUtf8}
use Rattle.trust_base.proofs.NameFacts.{is_utf8-of_other}
use Rattle.day_sheet.proofs.record.is_text.Goals as goal

pub returns-in-Ok : goal.returns-in-Ok
returns-in-Ok c = sym (is_utf8-from_IsUtf8 c.args.field.now c.in-Ok.ensures.cases.1)

pub returns-in-Err : goal.returns-in-Err
returns-in-Err c = sym (is_utf8-of_other c.args.field.now c.in-Err.ensures.cases.0)
