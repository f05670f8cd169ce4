use Rattle.portal_requests.proofs.Names.{◌≡◌, drop, AreTaken, route_rows, rows_of, the_routes}
use Rattle.portal_requests.proofs.routes.Routes.new.Given as goal

-- the routes that are left make the router whole, and each of them is taken
abbrev pub invariant-loop-path : goal.invariant-loop-path
invariant-loop-path l = record {
  rows : route_rows (rows_of (drop l.path-index l.path-items)) l.router ≡ the_routes;
  taken : AreTaken (rows_of (drop l.path-index l.path-items)) l.router;
}
