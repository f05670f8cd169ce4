-- The place of a path.
use Rattle.portal_requests.proofs.Names.{◌≡◌, ℕ, Bool, cond, List, Option, None, ap, sym, option_map, IsUtf8, is_utf8-from_IsUtf8, first, Place, the_routes, place_of, arith, ints, nat_tests}
use Rattle.trust_base.proofs.NameFacts.{is_utf8-of_other}

-- the place that the routes give a path
abbrev pub placed_at : List ℕ → Option Place
placed_at path = option_map (λ e. e.value) (first the_routes path)

pub place-none : (path : List ℕ) → (IsUtf8 path → ⊥) → None ≡ place_of path
place-none path other = sym (ap (λ (b : Bool). cond b (placed_at path) None) (is_utf8-of_other path other))

pub place-some : (path text : List ℕ) (o : Option Place) → text ≡ path → IsUtf8 path → o ≡ placed_at text → o ≡ place_of path
place-some path text o same utf8 is = grind (arith, ints, nat_tests, placed_at, is_utf8-from_IsUtf8)
