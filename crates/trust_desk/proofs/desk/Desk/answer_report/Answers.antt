use Rattle.trust_desk.proofs.Names.{◌∙◌, ap, sym, Ok, IsRead, subst, text_reply}
use Rattle.book_reports.specs.ReportTexts.{IsReportOf, limits_of, report_text}
use Rattle.trust_desk.specs.ReportStep.{report_for}
use Rattle.trust_desk.proofs.Answered.{told-answered}
use Rattle.trust_desk.proofs.Limits.{report-limits}
use Rattle.trust_desk.proofs.desk.Desk.answer_report.Goals as goal

pub returns : goal.returns
returns g c =
    λ h kind.
    let B = g.B.Book in
    let read = subst (λ b. IsRead (Ok c.in_ok-found.found) (B.seen b) (B.seen c.find_report.new.book)) c.self.view_is c.in_ok-found.ensures.read in
    told-answered c.args.day h (report_for c.args.caller.now c.args.report) c.tell_report.result kind c.tell_report.ensures.plain c.tell_report.ensures.fine read
    (λ clean stands.
    let firm = (B.seen c.args.self.now).firm in
    let is = subst (λ b. (B.seen b).stands → IsReportOf c.args.report c.args.day (B.seen b).firm c.in_ok-found.found) c.self.view_is (c.in_ok-found.ensures.told clean) stands in
    c.tell_report.ensures.says
    ∙ ap text_reply (report-limits c.args.caller.now c.in_ok-found.found.limits (limits_of c.args.report firm) c.in_ok-found.found.text.items (report_text c.args.report c.args.day firm) (sym c.is_not_of_firm.ensures ∙ c.if-is_not_of_firm.false) is.limits is.text))
