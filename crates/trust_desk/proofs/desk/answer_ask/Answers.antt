use Rattle.trust_desk.proofs.Names.{false, IfOk-weaker, is_fault_body, changed, ◌≡◌, ◌∙◌, ap, inl, refl, rules, subst, sym, err_from_is_err_and, IsChange, refusal, Firm, of, asked_on, status_of_edit, said, Memory, IsReadOf}
use Rattle.trust_desk.proofs.Answered.{ask-refused, ask-unwritten, ask-written, change-makes, unread-answered}
use Rattle.trust_desk.proofs.OfRows.{held-on, other-status, replied-so}
use Rattle.trust_desk.proofs.Refused.{named-for, refused-by, whole-for}
use Rattle.trust_desk.proofs.desk.answer_ask.Goals as goal
use Rattle.trust_desk.proofs.desk.answer_ask.Goals.{Joined-is_whole, else-is_whole, else-is_text, in-Open, in-Open-2, in_default, then-is_whole, then-is_text}

-- what was read
loaded : (g : _) (c : Joined-is_whole g) → IsReadOf c.args.no c.args.ask.now c.if-is_whole.read (g.B.Book.seen c.args.book.now) (g.B.Book.seen c.if-is_whole.book)
loaded g c =
    let B = g.B.Book in
    let rows = of c.args.no (B.seen c.args.book.now).firm in
    let ask = c.args.ask.now in
    elim c.if-is_whole.branch [
      | then-is_whole w ↦ rw (w.read-is, w.book-is) (record {
        found = λ clean stands. IfOk-weaker w.matter-read.result _ _ (λ part whole. whole-for rows ask part whole) (w.matter-read.ensures.whole clean stands);
        read = w.matter-read.ensures.read;
      })
      | else-is_whole w ↦ rw (w.read-is, w.book-is) (record {
        found = λ clean stands.
            IfOk-weaker w.matter_for-read.result _ _
            (λ part is. named-for rows ask _ _ part w.number.ensures.is w.fund_number.ensures (sym c.is_whole.ensures ∙ w.if-is_whole.false) is)
            (w.matter_for-read.ensures.found clean stands);
        read = w.matter_for-read.ensures.read;
      })
    ]

pub returns-in_err-matter : goal.returns-in_err-matter
returns-in_err-matter g c =
    λ h kind.
    let found = rw c.in_err-matter.was at (loaded g (goal.at.returns-in_err-matter g c).Joined-is_whole) in
    let p = err_from_is_err_and c.from_residual.result c.from_residual.ensures.1 in
    rw (p.1, p.2) (unread-answered c.args.day h c.in_err-matter.field-0.0 found.read)

pub returns-in_err-change : goal.returns-in_err-change
returns-in_err-change g c =
    λ h kind.
    let B = g.B.Book in
    let old = c.args.book.now in
    let rows = of c.args.no (B.seen old).firm in
    let r = c.in_err-change.field-0.0 in
    let found = rw c.in_ok-matter.was at (loaded g (goal.at.returns-in_err-change g c).Joined-is_whole) in
    let p = err_from_is_err_and c.from_residual-in_err-change.result c.from_residual-in_err-change.ensures.1 in
    rw (p.1, p.2)
    (ask-refused c.args.day h c.args.no c.args.caller.now c.args.ask.now kind r found.read
    (λ served stood. refused-by (refusal rows (asked_on c.args.day c.args.caller.now c.args.ask.now)) r
    (c.in_err-change.ensures.decided (found.found served stood).held rows (((B.seen old).sound stood).matters c.args.no) (found.found served stood).is_part)))

pub returns-in_err-apply : goal.returns-in_err-apply
returns-in_err-apply g c =
    λ h kind.
    let p = err_from_is_err_and c.from_residual-in_err-apply.result c.from_residual-in_err-apply.ensures.1 in
    rw (p.1, p.2)
    (ask-refused c.args.day h c.args.no c.args.caller.now c.args.ask.now kind Memory (rw c.in_ok-matter.was at (loaded g (goal.at.returns-in_err-apply g c).Joined-is_whole)).read (λ served stood. record { why = inl refl; told = refl }))

pub returns-in_err-body_after : goal.returns-in_err-body_after
returns-in_err-body_after g c =
    λ h kind.
    let p = err_from_is_err_and c.from_residual-in_err-body_after.result c.from_residual-in_err-body_after.ensures.1 in
    rw (p.1, p.2)
    (ask-refused c.args.day h c.args.no c.args.caller.now c.args.ask.now kind Memory (rw c.in_ok-matter.was at (loaded g (goal.at.returns-in_err-body_after g c).Joined-is_whole)).read (λ served stood. record { why = inl refl; told = refl }))

pub write_change-requires : goal.write_change-requires
write_change-requires g c =
    λ clean stands.
    let B = g.B.Book in
    let old = c.args.book.now in
    let found = rw c.in_ok-matter.was at (loaded g (goal.at.write_change-requires g c).Joined-is_whole) in
    let stood = found.read.stood clean stands in
    let decided = c.in_ok-change.ensures.decided (found.found clean stood).held (of c.args.no (B.seen old).firm) (((B.seen old).sound stood).matters c.args.no) (found.found clean stood).is_part in
    subst (λ (f : Firm). IsChange (of c.args.no f) c.in_ok-change.change) (sym (found.read.same clean stood)) decided.change

pub returns-in_err-write_change : goal.returns-in_err-write_change
returns-in_err-write_change g c =
    λ h kind.
    let B = g.B.Book in
    let old = c.args.book.now in
    let found = rw c.in_ok-matter.was at (loaded g (goal.at.returns-in_err-write_change g c).Joined-is_whole) in
    let p = err_from_is_err_and c.from_residual-in_err-write_change.result c.from_residual-in_err-write_change.ensures.1 in
    rw (p.1, p.2)
    (ask-unwritten c.args.day h c.args.no c.args.caller.now c.args.ask.now kind c.in_err-write_change.field-0.0 found.read c.in_err-write_change.ensures.written
    (λ served stood. change-makes (B.seen old).firm c.args.no (asked_on c.args.day c.args.caller.now c.args.ask.now) c.in_ok-change.change
    (c.in_ok-change.ensures.decided (found.found served stood).held (of c.args.no (B.seen old).firm) (((B.seen old).sound stood).matters c.args.no) (found.found served stood).is_part)))

pub returns : goal.returns
returns g c =
    λ h kind.
    let B = g.B.Book in
    let old = c.args.book.now in
    let no = c.args.no in
    let ask = c.args.ask.now in
    let a = asked_on c.args.day c.args.caller.now ask in
    let rows = of no (B.seen old).firm in
    let change = c.in_ok-change.change in
    let found = rw c.in_ok-matter.was at (loaded g (goal.at.returns g c).Joined-is_whole) in
    let text = c.in_ok-body_after.field-0.items in
    let body : c.if-is_text.reply ≡ said ask text = elim c.if-is_text.branch [
      | then-is_text w ↦ w.reply-is ∙ search rules
      | else-is_text w ↦ w.reply-is ∙ search rules
    ] in
    let plain : is_fault_body c.if-is_text.reply ≡ false = elim c.if-is_text.branch [
      | then-is_text w ↦ ap is_fault_body w.reply-is
      | else-is_text w ↦ ap is_fault_body w.reply-is
    ] in
    let status : c.match-edit.reply ≡ status_of_edit c.edit.result.now = elim c.match-edit.branch [
      | in-Open w ↦ search rules
      | in-Open-2 w ↦ search rules
      | in_default w ↦ w.reply-is ∙ sym (other-status c.edit.result.now w.in_default.not-Open w.in_default.not-Append)
    ] in
    ask-written c.args.day h no c.args.caller.now ask kind (record { status = c.match-edit.reply; body = c.if-is_text.reply }) plain found.read c.in_ok-write_change.ensures.written
    (λ served stood.
    let is = found.found served stood in
    let sound = ((B.seen old).sound stood).matters no in
    let d = c.in_ok-change.ensures.decided is.held rows sound is.is_part in
    let made = c.in_ok-apply.ensures in
    let texts = c.in_ok-body_after.ensures (changed change rows) d.change.sound (made.ok rows sound is.is_part d.change)
    (held-on c.in_ok-matter.matter c.apply.new.self ask (made.held rows sound is.is_part d.change) is.held) (λ card. made.whole rows sound (is.whole card) d.change) in
    (replied-so no rows a change text c.if-is_text.reply c.match-edit.reply d texts body (status ∙ ap status_of_edit c.edit.ensures), change-makes (B.seen old).firm no a change d))
