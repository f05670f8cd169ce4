use Rattle.day_sheet.proofs.Names.{fields_of}
use Rattle.day_sheet.proofs.RecordFacts.{asked-replied, refused-replied}
use Rattle.day_sheet.proofs.record.answer_record.Goals as goal

pub returns-in-Ok : goal.returns-in-Ok
returns-in-Ok g c = asked-replied c.args.day (fields_of c.args.row.now) c.in-Ok.request c.answer.result _ _ c.in-Ok.ensures c.answer.ensures.replied

pub returns-in-Err : goal.returns-in-Err
returns-in-Err g c = refused-replied c.args.day (fields_of c.args.row.now) c.in-Err.refusal c.refused.result (g.B.Book.seen c.args.desk.now) c.in-Err.ensures c.refused.ensures
