use Rattle.portal_http.proofs.Serve.{serving-nothing, served-memory_fault, served-no_memory}
use Rattle.portal_http.proofs.stream.serve_stream.Goals as goal

pub returns-in-Ok-write_reply : goal.returns-in-Ok-write_reply
returns-in-Ok-write_reply g c = served-no_memory _ _ _ _ _ _ _ _ (serving-nothing c.args.day _ _ _) _ c.refused.result c.refused.ensures c.in-Ok-write_reply.ensures.ok

pub returns : goal.returns
returns g c = served-memory_fault _ _ _ _ _ _ _ _ (serving-nothing c.args.day _ _ _) _ c.refused.result c.refused.ensures c.in-Err-write_reply.ensures.err
