use Rattle.portal_http.proofs.Names.{◌≡◌, ◌≤◌, None, Serving}
use Rattle.portal_http.proofs.stream.serve_routes.Given as goal

-- the messages so far were answered
abbrev pub invariant-loop : goal.invariant-loop
invariant-loop g l =
    let B = g.B.Book in
    record {
      turns : l.counter ≤ 1000;
      serving : Serving l.fn.day (g.R.Read.remaining l.fn.reader) (g.W.Write.contents l.fn.writer) (B.seen l.fn.desk) l.counter l.input.unread (g.W.Write.contents l.writer) (B.seen l.desk);
      fresh : l.input.last ≡ None;
    }
