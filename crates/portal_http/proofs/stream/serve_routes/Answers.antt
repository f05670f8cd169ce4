use Rattle.portal_http.proofs.Names.{◌∙◌, arith, ap, Ok, IsReplied, heard_of, stays}
use Rattle.portal_messages.specs.declared.input.Next.{Next}
use Rattle.portal_http.proofs.Serve.{serving-none, serving-more, served-ended, served-limit, served-read_fault, served-framing, served-framing_fault, served-memory_fault, served-no_memory, served-write_fault}
use Rattle.portal_http.proofs.Steps.{asked-answered, refused-answered}
use Rattle.portal_http.proofs.stream.serve_routes.Goals as goal
use Rattle.portal_http.proofs.stream.serve_routes.Goals.{in-Ok, in-Err, in-Ok-write_reply, in-Err-write_reply, in-Ok-request_of, in-Err-request_of}

pub loop-init : goal.loop-init
loop-init g c = record {
  turns = omega arith;
  serving = serving-none c.args.day _ _ _ _ c.new-input.ensures.unread;
  fresh = c.new-input.ensures.fresh;
}

pub returns-in-Ok-Ended : goal.returns-in-Ok-Ended
returns-in-Ok-Ended g c =
    let comes = rw c.in-Ok-Ended.field-0-is at (c.in-Ok-Ended.ensures.next c.loop.invariant.fresh) in
    served-ended _ _ _ _ _ _ _ _ c.loop.invariant.serving _ c.loop-test.true comes

pub returns-in-Ok-Framing : goal.returns-in-Ok-Framing
returns-in-Ok-Framing g c =
    let comes = rw c.in-Ok-Framing.field-0-is at (c.in-Ok-Framing.ensures.next c.loop.invariant.fresh) in
    let framed = rw c.in-Ok-Framing.field-0-is at (c.in-Ok-Framing.ensures.framing c.loop.invariant.fresh) in
    elim c.match-write_reply.branch [
      | in-Ok w ↦ rw w.result-is (served-framing _ _ _ _ _ _ _ _ c.loop.invariant.serving _ _ c.in-Ok-Framing.why c.refused.result c.loop-test.true comes framed c.refused.ensures w.in-Ok.ensures.ok)
      | in-Err w ↦ rw w.result-is (served-framing_fault _ _ _ _ _ _ _ _ c.loop.invariant.serving _ _ c.in-Ok-Framing.why c.refused.result c.loop-test.true comes framed c.refused.ensures w.in-Err.ensures.err)
    ]

pub returns-in-Err-Reader : goal.returns-in-Err-Reader
returns-in-Err-Reader g c = served-read_fault _ _ _ _ _ _ _ _ c.loop.invariant.serving

pub returns-in-Err-Memory : goal.returns-in-Err-Memory
returns-in-Err-Memory g c = elim c.match-write_reply-2.branch [
  | in-Ok-write_reply w ↦ rw w.result-is (served-no_memory _ _ _ _ _ _ _ _ c.loop.invariant.serving _ c.refused-in-Err-Memory.result c.refused-in-Err-Memory.ensures w.in-Ok-write_reply.ensures.ok)
  | in-Err-write_reply w ↦ rw w.result-is (served-memory_fault _ _ _ _ _ _ _ _ c.loop.invariant.serving _ c.refused-in-Err-Memory.result c.refused-in-Err-Memory.ensures w.in-Err-write_reply.ensures.err)
]

pub returns-in-Err-write_reply-2 : goal.returns-in-Err-write_reply-2
returns-in-Err-write_reply-2 g c =
    let comes = rw c.in-Ok-Message.field-0-is at (c.in-Ok-Message.ensures.next c.loop.invariant.fresh) in
    let answered : IsReplied c.args.day (heard_of c.in-Ok-Message.message) c.match-request_of.reply (g.B.Book.seen c.loop.desk) (g.B.Book.seen c.match-request_of.desk) =
    elim c.match-request_of.branch [
      | in-Ok-request_of w ↦ rw (w.reply-is, w.desk-is) (asked-answered _ _ w.in-Ok-request_of.request _ _ _ w.in-Ok-request_of.ensures w.answer-reply.ensures.replied)
      | in-Err-request_of w ↦ rw (w.reply-is, w.desk-is) (refused-answered _ _ w.in-Err-request_of.why _ _ w.in-Err-request_of.ensures w.refused-reply.ensures)
    ] in
    served-write_fault _ _ _ _ _ _ _ _ c.loop.invariant.serving _ _ _ c.in-Ok-Message.message c.match-request_of.reply comes answered c.in-Err-write_reply-2.ensures.err

pub loop-preserved : goal.loop-preserved
loop-preserved g c =
    let comes = rw c.in-Ok-Message.field-0-is at (c.in-Ok-Message.ensures.next c.loop.invariant.fresh) in
    let answered : IsReplied c.args.day (heard_of c.in-Ok-Message.message) c.match-request_of.reply (g.B.Book.seen c.loop.desk) (g.B.Book.seen c.match-request_of.desk) =
    elim c.match-request_of.branch [
      | in-Ok-request_of w ↦ rw (w.reply-is, w.desk-is) (asked-answered _ _ w.in-Ok-request_of.request _ _ _ w.in-Ok-request_of.ensures w.answer-reply.ensures.replied)
      | in-Err-request_of w ↦ rw (w.reply-is, w.desk-is) (refused-answered _ _ w.in-Err-request_of.why _ _ w.in-Err-request_of.ensures w.refused-reply.ensures)
    ] in
    record {
      turns = omega arith;
      serving = serving-more _ _ _ _ _ _ _ _ c.loop.invariant.serving _ _ _ c.in-Ok-Message.message c.match-request_of.reply comes answered c.in-Ok-write_reply-2.ensures.ok;
      fresh = c.read_message.ensures.last ∙ (ap stays c.in-Ok-Message.is ∙ ap (λ (x : Next). stays (Ok x)) c.in-Ok-Message.field-0-is);
    }

pub returns : goal.returns
returns g c = served-limit _ _ _ _ _ _ _ _ c.loop.invariant.serving (omega arith)
