-- The place of a path.
use Rattle.std.specs.Prelude.{ℕ, List, Option, None, option_map, if◌then◌else◌}
use Rattle.std.specs.Str.{is_utf8}
use Rattle.matchit.specs.Seek.{first}
use Rattle.portal_requests.specs.declared.routes.Place.{Place}
use Rattle.portal_requests.specs.Table.{the_routes}

-- where the route of a path leads; only a path in UTF-8 has one
abbrev pub place_of : List ℕ → Option Place
place_of path = if is_utf8 path then option_map (λ e. e.value) (first the_routes path) else None
