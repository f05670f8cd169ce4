use Rattle.trust_desk.proofs.Names.{◌∙◌, ap, sym, Ok, IsRead, subst, text_reply}
use Rattle.trust_desk.specs.ReportStep.{trail_for}
use Rattle.book_reports.specs.Reports.{matter_trail_report}
use Rattle.book_reports.specs.Trails.{IsTrailOf, is_gone_since, is_missing}
use Rattle.trust_desk.proofs.Answered.{told-answered}
use Rattle.trust_desk.proofs.Limits.{trail-limits}
use Rattle.trust_desk.proofs.desk.Desk.answer_trail.Goals as goal

pub returns : goal.returns
returns g c =
    λ h kind.
    let B = g.B.Book in
    let read = subst (λ b. IsRead (Ok c.in_ok-trail.trail) (B.seen b) (B.seen c.find_trail.new.book)) c.self.view_is c.in_ok-trail.ensures.read in
    told-answered c.args.day h (trail_for c.args.caller.now c.args.no) c.tell_trail.result kind c.tell_trail.ensures.plain c.tell_trail.ensures.fine read
    (λ clean stands.
    let firm = (B.seen c.args.self.now).firm in
    let is = subst (λ b. (B.seen b).stands → IsTrailOf c.args.no c.args.day (B.seen b).firm c.in_ok-trail.trail) c.self.view_is (c.in_ok-trail.ensures.told clean) stands in
    c.tell_trail.ensures.says
    ∙ ap text_reply (trail-limits c.args.caller.now (is_missing c.args.no firm) (is_gone_since c.args.no firm) c.in_ok-trail.trail.is_missing c.in_ok-trail.trail.is_purged c.in_ok-trail.trail.text.items (matter_trail_report c.args.no c.args.day firm) (sym c.is_not_of_firm.ensures ∙ c.if-is_not_of_firm.false) is.missing is.purged is.text))
