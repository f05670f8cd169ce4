use Rattle.portal_requests.proofs.Names.{arith, ints, nat_tests}
use Rattle.portal_requests.proofs.RouteFacts.{place-none, place-some}
use Rattle.portal_requests.proofs.routes.Routes.place.Goals as goal

pub returns-in_default : goal.returns-in_default
returns-in_default c = place-none c.args.path.now c.in_default.ensures.cases.0

pub returns-in-Ok-at : goal.returns-in-Ok-at
returns-in-Ok-at c = grind (arith, ints, nat_tests, place-some)
