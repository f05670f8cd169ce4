use Rattle.portal_requests.proofs.Names.{view, texts, arith, ints, nat_tests}
use Rattle.portal_requests.proofs.BodyFacts.{body-none, body-some, object-other, object-yes}
use Rattle.portal_requests.proofs.request.read_body.Goals as goal

pub returns-in-Err-clause-err : goal.returns-in-Err-clause-err
returns-in-Err-clause-err c = grind (arith, ints, nat_tests, body-none, texts)

pub returns-then-is_object-clause-ok : goal.returns-then-is_object-clause-ok
returns-then-is_object-clause-ok c = grind (arith, ints, nat_tests, object-yes, texts, view, body-some)

pub returns-else-is_object-clause-err : goal.returns-else-is_object-clause-err
returns-else-is_object-clause-err c = grind (arith, ints, nat_tests, object-other, texts, view, body-some)
