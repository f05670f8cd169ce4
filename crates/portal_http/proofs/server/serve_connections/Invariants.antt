use Rattle.portal_http.proofs.Names.{◌≤◌}
use Rattle.portal_http.proofs.InTurn.{ServingAll}
use Rattle.portal_http.proofs.server.serve_connections.Given as goal

-- the clients so far were served
abbrev pub invariant-loop : goal.invariant-loop
invariant-loop g l =
    let B = g.B.Book in
    record {
      turns : l.counter ≤ l.fn.count;
      serving : ServingAll B.seen g.L.Writer.Write.contents l.fn.day (g.L.ClientListener.comes l.initial.listener) (g.W.Write.contents l.initial.writer) l.initial.desk l.counter (g.L.ClientListener.comes l.listener) (g.W.Write.contents l.writer) l.desk;
    }
