use Rattle.std.proofs.lemmas.Grind.{common_steps}
use Rattle.portal_messages.proofs.Names.{◌∙◌, refl, sym, ap, front_of, arith, rules}
use Rattle.portal_messages.proofs.BodyFacts.{cut-body, message-next, refused-next}
use Rattle.portal_messages.proofs.input.Source.read_next.Goals as goal

pub returns-in-Err-clause-last : goal.returns-in-Err-clause-last
returns-in-Err-clause-last g c =
    let size = sym (rw (c.of-method.ensures, c.of-target.ensures) at c.in-Err.ensures.value) in
    (c.in-Err.ensures.framing, refused-next _ _ _ _ _ _ _ c.in_ok-head.ensures.unread c.in_ok-head.ensures.next c.first_bytes-first.ensures c.as_slice.ensures.value c.in-Err.why size)

pub returns-then-not-branch-clause-last : goal.returns-then-not-branch-clause-last
returns-then-not-branch-clause-last g c =
    let size = sym (rw (c.of-method.ensures, c.of-target.ensures) at c.in-Ok.ensures.value) in
    let short = rw c.if-not-branch.true at c.in_ok-fill_to.ensures.full in
    (refl, cut-body _ _ _ _ _ _ _ c.in_ok-head.ensures.unread c.in_ok-head.ensures.next c.first_bytes-first.ensures c.as_slice.ensures.value _ _ _ size c.in_ok-fill_to.ensures.unread short.0 short.1)

pub returns-clause-message : goal.returns-clause-message
returns-clause-message g c =
    let first = c.first_bytes-first.ensures ∙ ap front_of c.as_slice.ensures.value in
    let size = sym (rw (c.of-method.ensures, c.of-target.ensures) at c.in-Ok.ensures.value) in
    let full = rw c.if-not-branch.false at c.in_ok-fill_to.ensures.full in
    message-next c.next_head.new.self.buffer.items c.first_bytes-first.result.now c.fill_to.new.self.buffer.items c.next_head.new.spans c.in_ok-head.head _ _ _ c.in-Ok.size c.in_ok-head.ensures.unread c.in_ok-head.ensures.next first size c.in_ok-fill_to.ensures.unread full
    _ _
    (c.in_ok-message.ensures.method ∙ c.of-method.ensures)
    (c.in_ok-message.ensures.target ∙ c.of-target.ensures)
    c.in_ok-message.ensures.callers
    (grind (arith, common_steps))
    (search rules)
