use Rattle.portal_http.proofs.Names.{arith, refl, IsClientServed}
use Rattle.portal_http.proofs.InTurn.{serving-none, serving-more, served-done, served-write_fault}
use Rattle.portal_http.proofs.server.serve_connections.Goals as goal
use Rattle.portal_http.proofs.server.serve_connections.Goals.{in-Ok, in-Err-Aborted}

pub loop-init : goal.loop-init
loop-init g c = record { turns = omega arith; serving = serving-none _ _ _ _ _ _ }

pub loop-preserved : goal.loop-preserved
loop-preserved g c =
    let B = g.B.Book in
    let client : IsClientServed B.seen g.L.Writer.Write.contents c.args.day (g.L.ClientListener.comes c.loop.listener 0) c.loop.desk c.match-accept.end c.match-accept.desk =
    elim c.match-accept.branch [
      | in-Ok w ↦ rw (w.end-is, w.desk-is) (record { stream = _; writer = w.in-Ok.client.writer; left = w.serve_connection.result.writer; came = w.in-Ok.ensures.client; served = w.serve_connection.ensures })
      | in-Err-Aborted w ↦ rw (w.end-is, w.desk-is) (record { came = rw w.in-Err-Aborted.field-0-is at w.in-Err-Aborted.ensures.fault; same = refl })
    ] in
    let told = rw c.line_of.ensures at c.in-Ok-send.ensures.ok in
    record {
      turns = omega arith;
      serving = serving-more _ _ _ _ _ _ _ _ _ _ c.loop.invariant.serving c.match-accept.end _ client _ c.accept.ensures.next _ told;
    }

pub returns-in-Err-clause-served : goal.returns-in-Err-clause-served
returns-in-Err-clause-served g c =
    let B = g.B.Book in
    let client : IsClientServed B.seen g.L.Writer.Write.contents c.args.day (g.L.ClientListener.comes c.loop.listener 0) c.loop.desk c.match-accept.end c.match-accept.desk =
    elim c.match-accept.branch [
      | in-Ok w ↦ rw (w.end-is, w.desk-is) (record { stream = _; writer = w.in-Ok.client.writer; left = w.serve_connection.result.writer; came = w.in-Ok.ensures.client; served = w.serve_connection.ensures })
      | in-Err-Aborted w ↦ rw (w.end-is, w.desk-is) (record { came = rw w.in-Err-Aborted.field-0-is at w.in-Err-Aborted.ensures.fault; same = refl })
    ] in
    let told = rw c.line_of.ensures at c.in-Err.ensures.err in
    served-write_fault _ _ _ _ _ _ _ _ _ _ c.loop.invariant.serving c.match-accept.end _ client _ (omega arith) _ told

pub returns-clause-served : goal.returns-clause-served
returns-clause-served g c = served-done _ _ _ _ _ _ _ _ _ _ c.loop.invariant.serving _ (omega arith)
