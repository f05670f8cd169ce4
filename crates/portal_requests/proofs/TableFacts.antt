-- The table of routes, and a router to which its routes are added.
use Rattle.portal_requests.proofs.Names.{◌≡◌, ◌<◌, ◌≤◌, ℕ, suc, List, [], Ok, Result, IfErr, arith, ints, nat_tests, drop, drop-cons, get_or, length, matchit_on_literals, RowsOf, RouteOf, Scan, InsertsRead, parse_route, InsertError, Place, AreTaken, IsTaken, TABLE, row_in, route_rows, rows_of}
use Rattle.std.specs.Borrow.{Bor}
use Rattle.std.proofs.lemmas.List.{drop_all}
use Rattle.matchit.specs.declared.error.InsertError.TheVariants.{OutOfMemory}

-- each path is good, and no two of them conflict
pub table-taken : AreTaken TABLE []
unfolding AreTaken TABLE matchit_on_literals
table-taken = grind (arith, ints, nat_tests)

-- a route that was put in is a row more
row-put : (read : Result Scan InsertError) (place : Place) (old new : RowsOf (RouteOf Place)) (u : Unit {0}) → InsertsRead read place old new (Ok u) → new ≡ row_in read place old
row-put read place old new u is = grind (arith, ints, nat_tests)

-- only want of memory leaves out a route that is taken
pub only-memory : (read : Result Scan InsertError) (place : Place) (old new : RowsOf (RouteOf Place)) (put : Result (Unit {0}) InsertError) → InsertsRead read place old new put → IsTaken read old → IfErr put (λ e. e ≡ OutOfMemory)
only-memory read place old new put is taken = grind (arith, ints, nat_tests)

module _ (table : List (Bor (List ℕ) × Place)) (i : ℕ) (old : RowsOf (RouteOf Place)) (default : Bor (List ℕ) × Place) where
  abbrev here : Bor (List ℕ) × Place
  here = get_or table i default

  -- the next route of those that are left is taken
  pub next-taken : AreTaken (rows_of (drop i table)) old → i < length table → IsTaken (parse_route here.0.now) old
  unfolding AreTaken
  next-taken taken lt = (rw (drop-cons table i default lt) at taken).0

  -- once it was put in, the routes behind it are left
  pub rows-more : (new whole : RowsOf (RouteOf Place)) (u : Unit {0}) → route_rows (rows_of (drop i table)) old ≡ whole
      → InsertsRead (parse_route here.0.now) here.1 old new (Ok u) → i < length table → route_rows (rows_of (drop (suc i) table)) new ≡ whole
  unfolding route_rows
  rows-more new whole u is put lt = rw (row-put _ _ _ _ u put) (rw (drop-cons table i default lt) at is)

  pub taken-more : (new : RowsOf (RouteOf Place)) (u : Unit {0}) → AreTaken (rows_of (drop i table)) old
      → InsertsRead (parse_route here.0.now) here.1 old new (Ok u) → i < length table → AreTaken (rows_of (drop (suc i) table)) new
  unfolding AreTaken
  taken-more new u taken put lt = rw (row-put _ _ _ _ u put) (rw (drop-cons table i default lt) at taken).1

-- no route is left
pub none-left : (table : List (Bor (List ℕ) × Place)) (i : ℕ) (rows whole : RowsOf (RouteOf Place)) → route_rows (rows_of (drop i table)) rows ≡ whole → length table ≤ i → rows ≡ whole
unfolding route_rows
none-left table i rows whole is le = rw (drop_all i table le) at is
