use Rattle.std.proofs.Common.{rules}
use Rattle.portal_requests.proofs.BodyFacts.{key-among}
use Rattle.portal_requests.proofs.request.is_object.Goals as goal

pub returns-then-not-contains : goal.returns-then-not-contains
returns-then-not-contains c = search (rules, c.contains.ensures.value, key-among c.args.keys.now c.as_str.result.now)

pub loop-key-preserved : goal.loop-key-preserved
loop-key-preserved c = search (rules, c.contains.ensures.value, key-among c.args.keys.now c.as_str.result.now)
