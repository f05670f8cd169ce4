use Rattle.std.proofs.lemmas.Result.{on_err_weaker}
use Rattle.portal_http.proofs.Fronts.{front-behind}
use Rattle.portal_http.proofs.stream.send_both.Goals as goal

pub returns-in-Ok-clause-err : goal.returns-in-Ok-clause-err
returns-in-Ok-clause-err g c =
    on_err_weaker c.send-in-Ok.result (front-behind _ _ _ c.args.first.now c.args.second.now c.in-Ok.ensures.ok) c.send-in-Ok.ensures.err
