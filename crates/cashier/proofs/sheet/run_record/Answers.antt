use Rattle.cashier.proofs.Names.{fields_of, heard_of, leave-failed, arith, ints, nat_tests}
use Rattle.cashier.proofs.SheetKept.{reply-says, told-as}
use Rattle.cashier.proofs.TrailFacts.{made-left, step-kept}
use Rattle.cashier.proofs.sheet.run_record.Goals as goal

pub returns-in_default-clause-crash : goal.returns-in_default-clause-crash
returns-in_default-clause-crash g c = λ sure clean stands. leave-failed (λ ok. cc) (λ found is. is) (c.answer_record-reply.ensures.crash sure stands (λ items. clean))

pub returns-clause-crash : goal.returns-clause-crash
returns-clause-crash g c = λ sure clean stands.
    told-as _ _ _ _ _ (heard_of (fields_of c.args.row.now)) c.answer_record-reply.result _ (c.ran_of.ensures.is) clean (λ served. c.answer_record-reply.ensures.step served stands) (c.answer_record-reply.ensures.crash sure stands (λ items. clean))

pub returns-in_default-clause-told : goal.returns-in_default-clause-told
returns-in_default-clause-told g c = grind (arith, ints, nat_tests, reply-says, heard_of, fields_of)

pub returns-clause-told : goal.returns-clause-told
returns-clause-told g c = grind (arith, ints, nat_tests, reply-says, heard_of, fields_of)

-- The trail.

pub returns-in_default-clause-trail : goal.returns-in_default-clause-trail
returns-in_default-clause-trail g c = λ clean stands.
    step-kept (g.B.Book.seen c.args.desk.now) _ _ _ _ stands (c.answer_record-reply.ensures.step clean stands)

pub returns-clause-trail : goal.returns-clause-trail
returns-clause-trail g c = λ clean stands.
    step-kept (g.B.Book.seen c.args.desk.now) _ _ _ _ stands (c.answer_record-reply.ensures.step clean stands)

pub returns-in_default-clause-left : goal.returns-in_default-clause-left
returns-in_default-clause-left g c = λ sure clean stands.
    made-left (g.B.Book.seen c.args.desk.now) _ _ (heard_of (fields_of c.args.row.now)) _ stands
    (c.answer_record-reply.ensures.crash sure stands (λ items. clean))

pub returns-clause-left : goal.returns-clause-left
returns-clause-left g c = λ sure clean stands.
    made-left (g.B.Book.seen c.args.desk.now) _ _ (heard_of (fields_of c.args.row.now)) _ stands
    (c.answer_record-reply.ensures.crash sure stands (λ items. clean))
