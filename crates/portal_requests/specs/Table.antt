-- The routes, and a router to which routes are added in order.
use Rattle.std.specs.Prelude.{◌≡◌, ℕ, List, [], ◌∷◌, None, Result, Ok, Err, codes, map, ⊤}
use Rattle.std.specs.Borrow.{Bor}
use Rattle.matchit.specs.Rows.{RowsOf}
use Rattle.matchit.specs.Order.{placed}
use Rattle.matchit.specs.Router.{RouteOf, nearest, route_from}
use Rattle.matchit.specs.Route.{Scan, parse_route}
use Rattle.matchit.specs.declared.error.InsertError.{InsertError}
use Rattle.portal_requests.specs.declared.routes.MatterPlace.TheVariants as matter
use Rattle.portal_requests.specs.declared.routes.EntryPlace.TheVariants as entry
use Rattle.trust_desk.specs.declared.requests.CallerList.TheVariants as caller_list
use Rattle.book_reports.specs.declared.report.DayReport.TheVariants as day_report
use Rattle.book_reports.specs.declared.report.PeriodReport.TheVariants as period_report
use Rattle.book_reports.specs.declared.report.TodayReport.TheVariants as today_report
use Rattle.trust_desk.specs.declared.requests.MatchText.TheVariants as text
use Rattle.portal_requests.specs.declared.routes.Place.{Place}
use Rattle.portal_requests.specs.declared.routes.Place.TheVariants.{Acts, AsOf, Dismissal, Entry, Import, Listed, Match, Matter, Reasons, Today, Trail, Within}

-- the rows with one more route
abbrev pub row_in : Result Scan InsertError → Place → RowsOf (RouteOf Place) → RowsOf (RouteOf Place)
row_in (Ok s) place rows = placed (s.pattern, route_from s place) rows
row_in (Err e) place rows = rows

-- the rows with these routes, added one after another
unfoldable pub route_rows : List (List ℕ × Place) → RowsOf (RouteOf Place) → RowsOf (RouteOf Place)
route_rows [] rows = rows
route_rows (p ∷ rest) rows = route_rows rest (row_in (parse_route p.0) p.1 rows)

-- the route's path is valid, and conflicts with none of the rows
abbrev pub IsTaken : Result Scan InsertError → RowsOf (RouteOf Place) → Type 0
IsTaken (Ok s) rows = nearest s.pattern rows ≡ None
IsTaken (Err e) rows = ⊥

-- each of these routes is accepted when they are added one after another
unfoldable pub AreTaken : List (List ℕ × Place) → RowsOf (RouteOf Place) → Type 0
AreTaken [] rows = ⊤
AreTaken (p ∷ rest) rows = IsTaken (parse_route p.0) rows × AreTaken rest (row_in (parse_route p.0) p.1 rows)

-- the texts and places of a table
abbrev pub rows_of : List (Bor (List ℕ) × Place) → List (List ℕ × Place)
rows_of = map (λ p. (p.0.now, p.1))

-- the paths that have a route, and where each leads
unfoldable pub TABLE : List (List ℕ × Place)
TABLE = (codes "/matters", Listed caller_list.Matters)
    ∷ (codes "/waiting", Listed caller_list.Waiting)
    ∷ (codes "/matters/{m}", Matter matter.Show)
    ∷ (codes "/matters/{m}/open", Matter matter.Open)
    ∷ (codes "/matters/{m}/seats", Matter matter.AddSeat)
    ∷ (codes "/matters/{m}/seats/drop", Matter matter.DropSeat)
    ∷ (codes "/matters/{m}/close", Matter matter.Close)
    ∷ (codes "/matters/{m}/purge", Matter matter.Purge)
    ∷ (codes "/matters/{m}/accounting", Matter matter.Accounting)
    ∷ (codes "/matters/{m}/accounting/{from}/{to}", Matter matter.Account)
    ∷ (codes "/matters/{m}/trail", Acts)
    ∷ (codes "/matters/{m}/entries", Matter matter.Entries)
    ∷ (codes "/matters/{m}/entries/{e}", Entry entry.Show)
    ∷ (codes "/matters/{m}/entries/{e}/deposit", Entry entry.Deposit)
    ∷ (codes "/matters/{m}/entries/{e}/cancel", Entry entry.Cancel)
    ∷ (codes "/matters/{m}/entries/{e}/propose", Entry entry.Propose)
    ∷ (codes "/matters/{m}/entries/{e}/approve", Entry entry.Approve)
    ∷ (codes "/matters/{m}/entries/{e}/decline", Entry entry.Decline)
    ∷ (codes "/matters/{m}/entries/{e}/withdraw", Entry entry.Withdraw)
    ∷ (codes "/matters/{m}/entries/{e}/void", Entry entry.Void)
    ∷ (codes "/matters/{m}/entries/{e}/fee", Entry entry.Fee)
    ∷ (codes "/matters/{m}/entries/{e}/claim", Entry entry.Claim)
    ∷ (codes "/matters/{m}/entries/{e}/offer", Entry entry.Offer)
    ∷ (codes "/matters/{m}/entries/{e}/accept", Entry entry.Accept)
    ∷ (codes "/matters/{m}/entries/{e}/award", Entry entry.Award)
    ∷ (codes "/firm/statements", Import)
    ∷ (codes "/firm/statements/match", Match text.Statement)
    ∷ (codes "/firm/statements/unmatched", Match text.Unmatched)
    ∷ (codes "/firm/exceptions", Today today_report.Exceptions)
    ∷ (codes "/firm/exceptions/reasons", Reasons)
    ∷ (codes "/firm/exceptions/dismiss", Dismissal)
    ∷ (codes "/firm/trial-balance", Today today_report.Trial)
    ∷ (codes "/firm/journal", Today today_report.Journal)
    ∷ (codes "/firm/reconciliation/{day}", AsOf day_report.Reconciliation)
    ∷ (codes "/firm/clients/{day}", AsOf day_report.Clients)
    ∷ (codes "/firm/outstanding/{day}", AsOf day_report.Outstanding)
    ∷ (codes "/firm/receipts/{from}/{to}", Within period_report.Receipts)
    ∷ (codes "/firm/disbursements/{from}/{to}", Within period_report.Disbursements)
    ∷ (codes "/firm/approvals/{from}/{to}", Within period_report.Approvals)
    ∷ (codes "/firm/month/{day}", AsOf day_report.Month)
    ∷ (codes "/firm/retention", Today today_report.Retention)
    ∷ (codes "/firm/trail", Today today_report.Trail)
    ∷ (codes "/firm/trail/{m}", Trail) ∷ []

unfoldable pub the_routes : RowsOf (RouteOf Place)
the_routes = route_rows TABLE []
