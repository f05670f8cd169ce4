-- The parts of a path, and which matter a message names by its path.
use Rattle.portal_requests.proofs.Names.{◌≡◌, ◌∙◌, ◌++◌, ℕ, Bool, true, false, cond, List, [], ◌∷◌, Option, Some, None, Result, Ok, Err, refl, sym, ap, subst, arith, codes, length, option_map, unwrap_or, ⊤, bytes_eq, IsText, Scan, parse_route, RouteOf, route_from, RowsOf, first, InsertError, Line, day_of, matter_of, Field, BadMethod, Ask, Caller, is_the, names, Message, path_of, Place, entry_ask, matter_ask, body_in, caller_of, dismissing, dismissing_in, line_in, line_keys, named_in, part, period_in, method_of, Span, CallerList, DayReport, PeriodReport, asked_at, reported_as_of, reported_within, called, heard_as, heard_of, of_matter, placed, request, routed, place_of, TABLE, route_rows, row_in, the_routes, matchit_on_literals, ints, nat_tests}
use Rattle.std.specs.Borrow.{Bor}
use Rattle.trust_base.proofs.ReadFacts.{digit_facts, number-none}
use Rattle.portal_requests.specs.declared.routes.Place.TheVariants as place
use Rattle.portal_requests.specs.Requests.{acts_of, trail_of}
use Rattle.portal_requests.specs.NamedByPath.{NamedByPath}
use Rattle.trust_desk.specs.declared.requests.CallerList.TheVariants as caller_list
use Rattle.trust_desk.specs.declared.requests.MatchText.TheVariants as text
use Rattle.portal_requests.proofs.Literals.{AllRows, Any, LeadsBy, Nothing, Starts, by-any, by-nothing, first-starts, placed-rows, starts-front, starts-whole}

-- the part that was found, or nothing
pub found-or_none : (got : Option (Bor (List ℕ))) (found : Option (List ℕ)) (nothing : Bor (List ℕ)) → option_map (λ b. b.now) got ≡ found → nothing.now ≡ []
    → (unwrap_or got nothing).now ≡ unwrap_or found []
found-or_none None found nothing e none = none ∙ ap (λ o. unwrap_or o []) e
found-or_none (Some b) found nothing e none = ap (λ o. unwrap_or o []) e

-- Paths to some places.

-- the pattern of a route's text
abbrev pattern_in : Result Scan InsertError → List ℕ
pattern_in (Ok s) = s.pattern
pattern_in (Err e) = []

-- Of places of a kind, and of patterns of a form.
module _ (IsAt : Place → Type 0) (Is : List ℕ → Type 0) where
  -- a route that leads to such a place
  abbrev Leads : RouteOf Place → Type 0
  Leads e = IsAt e.value

  -- the pattern of each text that leads there is so
  abbrev AllTexts : List (List ℕ × Place) → Type 0
  AllTexts [] = ⊤
  AllTexts (p ∷ rest) = (IsAt p.1 → Is (pattern_in (parse_route p.0))) × AllTexts rest

  row-more : (r : Result Scan InsertError) (p : Place) (rows : RowsOf (RouteOf Place)) → (IsAt p → Is (pattern_in r)) → AllRows Leads Is rows → AllRows Leads Is (row_in r p rows)
  row-more r p rows is all = grind (arith, ints, nat_tests, placed-rows, route_from)

  rows-more : (table : List (List ℕ × Place)) (rows : RowsOf (RouteOf Place)) → AllTexts table → AllRows Leads Is rows → AllRows Leads Is (route_rows table rows)
  unfolding route_rows
  rows-more [] rows texts all = all
  rows-more (p ∷ rest) rows texts all = rows-more rest (row_in (parse_route p.0) p.1 rows) texts.1 (row-more (parse_route p.0) p.1 rows texts.0 all)

  -- a path that leads there is so, if rows lead there only by such a path
  led-by : (path : List ℕ) (o : Option (RouteOf Place)) (p : Place) → AllTexts TABLE → LeadsBy Leads Is → IsAt p → first the_routes path ≡ o → option_map (λ e. e.value) o ≡ Some p → Is path
  unfolding the_routes
  led-by path None p texts by is found e = absurd (cc)
  led-by path (Some r) p texts by is found e =
      by the_routes path r (rows-more TABLE [] texts tt) found (subst IsAt (sym (ap (λ o. unwrap_or o r.value) e)) is)

  pub placed-by : (path : List ℕ) (p : Place) → AllTexts TABLE → LeadsBy Leads Is → IsAt p → place_of path ≡ Some p → Is path
  placed-by path p texts by is e = grind (arith, ints, nat_tests, option_map, first, led-by)

-- Paths of the firm.

-- a place of the firm, and of no matter or caller
abbrev is_of_firm : Place → Bool
is_of_firm (place.Matter p) = false
is_of_firm (place.Entry p) = false
is_of_firm place.Acts = false
is_of_firm (place.Listed p) = false
is_of_firm _ = true

abbrev IsOfFirm : Place → Type 0
IsOfFirm p = is_of_firm p ≡ true

abbrev firm_front : List ℕ
firm_front = codes "/firm/"

abbrev OfFirm : List ℕ → Type 0
OfFirm t = Starts Any firm_front t

firm-texts : AllTexts IsOfFirm OfFirm TABLE
unfolding TABLE matchit_on_literals
firm-texts = grind (arith, ints, nat_tests)

firm-text : IsText firm_front
firm-text = (omega arith, (omega arith, (omega arith, (omega arith, (omega arith, (omega arith, tt))))))

-- a path that begins so names no matter
firm-part : (rest : List ℕ) → named_in (firm_front ++ rest) ≡ None
unfolding part
firm-part rest = refl

front-unnamed : (path : List ℕ) → OfFirm path → named_in path ≡ None
front-unnamed path is = let begins = starts-front firm_front path is in ap named_in begins.1 ∙ firm-part begins.0

firm-unnamed : (path : List ℕ) (p : Place) → is_of_firm p ≡ true → place_of path ≡ Some p → named_in path ≡ None
firm-unnamed path p is e =
    front-unnamed path (placed-by IsOfFirm OfFirm path p firm-texts (first-starts (Leads IsOfFirm OfFirm) Any (by-any (Leads IsOfFirm OfFirm)) firm_front firm-text) is e)

-- Paths of a caller's lists.

abbrev list_path : CallerList → List ℕ
list_path caller_list.Matters = codes "/matters"
list_path caller_list.Waiting = codes "/waiting"

abbrev IsOfList : CallerList → Place → Type 0
IsOfList list p = p ≡ place.Listed list

abbrev OfList : CallerList → List ℕ → Type 0
OfList list t = Starts Nothing (list_path list) t

list-texts : (list : CallerList) → AllTexts (IsOfList list) (OfList list) TABLE
unfolding TABLE matchit_on_literals
list-texts caller_list.Matters = grind (arith, ints, nat_tests)
list-texts caller_list.Waiting = grind (arith, ints, nat_tests)

list-text : (list : CallerList) → IsText (list_path list)
list-text caller_list.Matters = grind (arith, ints, nat_tests)
list-text caller_list.Waiting = grind (arith, ints, nat_tests)

-- nothing is no matter's number
nothing-unnamed : matter_of [] ≡ None
nothing-unnamed = number-none _ _ _ [] (λ m low high e. omega (arith, digit_facts, ap length e))

short-unnamed : (list : CallerList) → named_in (list_path list) ≡ None
unfolding part
short-unnamed caller_list.Matters = nothing-unnamed
short-unnamed caller_list.Waiting = refl

-- each has only its own path, which has no matter's part
list-unnamed : (path : List ℕ) (list : CallerList) → place_of path ≡ Some (place.Listed list) → named_in path ≡ None
list-unnamed path list e =
    let leads = Leads (IsOfList list) (OfList list) in
    let by = first-starts leads Nothing (by-nothing leads) (list_path list) (list-text list) in
    ap named_in (starts-whole (list_path list) path (placed-by (IsOfList list) (OfList list) path (place.Listed list) (list-texts list) by refl e)) ∙ short-unnamed list

-- A request.

-- what is asked of the matter of a path names that
of-named : (n : ℕ) (caller : Caller) (named : Option ℕ) (asked : Result Ask Field) → names n (heard_as named (of_matter caller named asked)) ≡ is_the n named
of-named n caller named asked = grind (arith, ints, nat_tests)

-- what is asked of the firm names none
report-named : (n : ℕ) (caller : Caller) (report : DayReport) (day : Option ℕ) → names n (heard_as None (reported_as_of caller report day)) ≡ false
report-named n caller report day = grind (arith, ints, nat_tests)

period-named : (n : ℕ) (caller : Caller) (report : PeriodReport) (period : Option Span) → names n (heard_as None (reported_within caller report period)) ≡ false
period-named n caller report period = grind (arith, ints, nat_tests)

acts-named : (n : ℕ) (caller : Caller) (named : Option ℕ) → names n (heard_as named (acts_of caller named)) ≡ is_the n named
acts-named n caller named = grind (arith, ints, nat_tests)

trail-named : (n : ℕ) (caller : Caller) (m : Option ℕ) → names n (heard_as None (trail_of caller m)) ≡ false
trail-named n caller m = grind (arith, ints, nat_tests)

dismissal-named : (n : ℕ) (caller : Caller) (o : Option Line) → names n (heard_as None (dismissing caller o)) ≡ false
dismissal-named n caller o = grind (arith, ints, nat_tests)

at-named : (n : ℕ) (p : Place) (caller : Caller) (path body : List ℕ) → place_of path ≡ Some p → names n (heard_as (named_in path) (asked_at p caller path body)) ≡ is_the n (named_in path)
at-named n (place.Matter p) caller path body e = of-named n caller (named_in path) (matter_ask p path body)
at-named n (place.Entry p) caller path body e = of-named n caller (named_in path) (entry_ask p (part 4 path) body)
at-named n (place.Listed p) caller path body e = sym (ap (is_the n) (list-unnamed path p e))
at-named n (place.Today p) caller path body e = sym (ap (is_the n) (firm-unnamed path (place.Today p) refl e))
at-named n (place.AsOf report) caller path body e = subst (λ (o : Option ℕ). names n (heard_as o (reported_as_of caller report (day_of (part 3 path)))) ≡ is_the n o) (sym (firm-unnamed path (place.AsOf report) refl e)) (report-named n caller report (day_of (part 3 path)))
at-named n (place.Within report) caller path body e =
    let period = period_in (part 3 path) (part 4 path) in
    subst (λ (o : Option ℕ). names n (heard_as o (reported_within caller report period)) ≡ is_the n o) (sym (firm-unnamed path (place.Within report) refl e)) (period-named n caller report period)
at-named n place.Trail caller path body e = subst (λ (o : Option ℕ). names n (heard_as o (trail_of caller (matter_of (part 3 path)))) ≡ is_the n o) (sym (firm-unnamed path place.Trail refl e)) (trail-named n caller (matter_of (part 3 path)))
at-named n place.Acts caller path body e = acts-named n caller (named_in path)
at-named n place.Import caller path body e = sym (ap (is_the n) (firm-unnamed path place.Import refl e))
at-named n (place.Match text.Statement) caller path body e = sym (ap (is_the n) (firm-unnamed path (place.Match text.Statement) refl e))
at-named n (place.Match text.Unmatched) caller path body e = sym (ap (is_the n) (firm-unnamed path (place.Match text.Unmatched) refl e))
at-named n place.Reasons caller path body e = sym (ap (is_the n) (firm-unnamed path place.Reasons refl e))
at-named n place.Dismissal caller path body e = subst (λ (o : Option ℕ). names n (heard_as o (dismissing_in caller body)) ≡ is_the n o) (sym (firm-unnamed path place.Dismissal refl e)) (dismissal-named n caller (line_in (body_in line_keys body)))

called-named : (n : ℕ) (p : Place) (o : Option Caller) (path body : List ℕ) → place_of path ≡ Some p → names n (heard_as (named_in path) (called p o path body)) ≡ is_the n (named_in path)
called-named n p None path body e = refl
called-named n p (Some caller) path body e = at-named n p caller path body e

placed-named : (n : ℕ) (p : Place) (m : Message) → place_of (path_of m.target) ≡ Some p → names n (heard_as (named_in (path_of m.target)) (placed p m)) ≡ is_the n (named_in (path_of m.target))
placed-named n p m e =
    let path = path_of m.target in
    elim (bytes_eq m.method (method_of p))
    as (λ b. names n (heard_as (named_in path) (cond b (called p (caller_of m.callers) path m.body) (Err BadMethod))) ≡ is_the n (named_in path))
    [ true ↦ called-named n p (caller_of m.callers) path m.body e | false ↦ refl ]

routed-named : (n : ℕ) (o : Option Place) (m : Message) → place_of (path_of m.target) ≡ o → names n (heard_as (named_in (path_of m.target)) (routed o m)) ≡ is_the n (named_in (path_of m.target))
routed-named n None m e = refl
routed-named n (Some p) m e = placed-named n p m e

pub named-by_path : NamedByPath
unfolding heard_of request
named-by_path n m = routed-named n (place_of (path_of m.target)) m refl
