use Rattle.trust_desk.proofs.Names.{◌≡◌, ◌∙◌, ap, refl, rules, subst, sym, Reply, Request, IsAnswered, counted_reply, Steps, Asks, OfItems, kind_of, import_refusal, imported, is_fault_reply, reply_for}
use Rattle.trust_desk.proofs.Answered.{end-counted, end-fault}
use Rattle.trust_desk.proofs.Calls.{kept-as}
use Rattle.trust_desk.proofs.Crashes.{leave-as}
use Rattle.trust_desk.proofs.desk.Desk.answer_beside.Goals as goal
use Rattle.trust_desk.proofs.desk.Desk.answer_beside.Goals.{in-Acts, in-Dismiss, in-Import, in-Listed, in-Match, in-Matter, in-Reasons, in-Report, in-Trail}

kind : {r s : Request} → r ≡ s → kind_of (Asks r) ≡ kind_of (Asks s)
kind is = ap (λ (r : Request). kind_of (Asks r)) is

pub returns : goal.returns
returns g c =
    let B = g.B.Book in
    let firm = λ (b : _). (B.seen b).firm in
    let day = c.args.day in
    let h = Asks c.args.request.now in
    let old = c.args.self.now in
    let new = c.match-request.self in
    let answered = c.match-request.answered in
    let is : IsAnswered day h answered (B.seen old) (B.seen new) = elim c.match-request.branch [
      | in-Matter w ↦ rw (w.self-is, w.answered-is)
          (subst (λ b. IsAnswered day h w.answer_ask-answered.result (B.seen b) (B.seen w.answer_ask-answered.new.book)) w.self.view_is
          (w.answer_ask-answered.ensures h (kind w.in-Matter.is)))
      | in-Import w ↦ rw (w.self-is, w.answered-is)
          (w.answer_import-answered.ensures h (kind w.in-Import.is ∙ (λ i. OfItems (import_refusal w.in-Import.caller (sym w.as_slice.ensures i)) (imported w.in-Import.caller (sym w.as_slice.ensures i)))))
      | in-Dismiss w ↦ rw (w.self-is, w.answered-is) (w.answer_dismiss-answered.ensures h (kind w.in-Dismiss.is))
      | in-Match w ↦ rw (w.self-is, w.answered-is) (w.answer_match-answered.ensures h (kind w.in-Match.is))
      | in-Report w ↦ rw (w.self-is, w.answered-is) (w.answer_report-answered.ensures h (kind w.in-Report.is))
      | in-Trail w ↦ rw (w.self-is, w.answered-is) (w.answer_trail-answered.ensures h (kind w.in-Trail.is))
      | in-Acts w ↦ rw (w.self-is, w.answered-is)
          (subst (λ b. IsAnswered day h w.answer_acts-answered.result (B.seen b) (B.seen w.answer_acts-answered.new.book)) w.self-in-Acts.view_is
          (w.answer_acts-answered.ensures h (kind w.in-Acts.is)))
      | in-Listed w ↦ rw (w.self-is, w.answered-is) (w.answer_list-answered.ensures day h (kind w.in-Listed.is))
      | in-Reasons w ↦ rw (w.self-is, w.answered-is) (w.answer_reasons-answered.ensures h (kind w.in-Reasons.is))
    ] in
    let says : c.unwrap_or_else.result ≡ reply_for answered = search rules in
    let step = λ (clean : (B.seen new).clean) (stands : (B.seen old).stands). subst (λ (reply : Reply). Steps day (firm old) h reply (firm new)) (sym says) (is.step clean stands) in
    record {
      step = step;
      kept = kept-as (λ sure stands. end-counted answered is.plain (B.seen old).refusals ∙ ap (λ reply. counted_reply reply (B.seen old).refusals) (sym says)) is.kept;
      crash = λ sure stands before.
          leave-as (λ fine. end-fault answered (ap is_fault_reply (sym says) ∙ fine)) (λ found made. made) (λ fine. refl) (is.crash sure stands before);
    }
