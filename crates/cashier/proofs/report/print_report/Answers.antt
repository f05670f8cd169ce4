use Rattle.cashier.proofs.ReportFacts.{report-leaves}
use Rattle.cashier.proofs.report.print_report.Goals as goal

pub returns-in_default-write_reply-clause-crash : goal.returns-in_default-write_reply-clause-crash
returns-in_default-write_reply-clause-crash g c = λ sure clean stands.
    report-leaves _ _ _ c.args.command _ _ (rw c.request_for.ensures at (c.answer_beside-reply.ensures.crash sure stands (λ _. clean)))

pub returns-clause-crash : goal.returns-clause-crash
returns-clause-crash g c = λ sure clean stands.
    report-leaves _ _ _ c.args.command _ _ (rw c.request_for.ensures at (c.answer_beside-reply.ensures.crash sure stands (λ _. clean)))
