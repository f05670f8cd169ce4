-- What a message asks. Refusals are tried in this order: no route, another method, no caller, a bad field.
use Rattle.std.specs.Prelude.{ℕ, List, Option, Some, None, Result, Ok, Err, if◌then◌else◌}
use Rattle.std.specs.Str.{bytes_eq}
use Rattle.trust_base.specs.Periods.{Span}
use Rattle.trust_base.specs.Texts.{day_of, matter_of}
use Rattle.trust_base.specs.declared.refusal.Refusal.{Refusal}
use Rattle.trust_base.specs.declared.refusal.Refusal.TheVariants.{BadField, BadMethod, NoCaller, NoRoute}
use Rattle.trust_base.specs.declared.refusal.Field.{Field}
use Rattle.trust_base.specs.declared.refusal.Field.TheVariants as field
use Rattle.matter_rows.specs.declared.act.Caller.{Caller}
use Rattle.trust_matter.specs.declared.ask.Ask.{Ask}
use Rattle.book_reports.specs.declared.report.DayReport.{DayReport}
use Rattle.book_reports.specs.declared.report.PeriodReport.{PeriodReport}
use Rattle.book_reports.specs.declared.report.Report.TheVariants as reports
use Rattle.trust_desk.specs.declared.requests.Request.{Request}
use Rattle.trust_desk.specs.declared.requests.Request.TheVariants as requests
use Rattle.trust_desk.specs.Heard.{Heard, Asks, Unread}
use Rattle.portal_messages.specs.declared.message.Message.{Message}
use Rattle.portal_messages.specs.Fields.{path_of}
use Rattle.portal_requests.specs.declared.routes.Place.{Place}
use Rattle.portal_requests.specs.declared.routes.Place.TheVariants as place
use Rattle.portal_requests.specs.Asked.{entry_ask, matter_ask}
use Rattle.portal_requests.specs.Callers.{caller_of}
use Rattle.portal_requests.specs.Paths.{named_in, part, period_in}
use Rattle.portal_requests.specs.Dismissals.{dismissing_in}
use Rattle.portal_requests.specs.Places.{method_of}
use Rattle.portal_requests.specs.Routing.{place_of}

-- an ask of the matter in a path; a bad matter is refused before all other fields
abbrev pub of_matter : Caller → Option ℕ → Result Ask Field → Result Request Refusal
of_matter caller None asked = Err (BadField field.Matter)
of_matter caller (Some m) (Err f) = Err (BadField f)
of_matter caller (Some m) (Ok a) = Ok (requests.Matter m caller a)

-- a report as of the day in a path
abbrev pub reported_as_of : Caller → DayReport → Option ℕ → Result Request Refusal
reported_as_of caller report None = Err (BadField field.Day)
reported_as_of caller report (Some day) = Ok (requests.Report caller (reports.AsOf report day))

-- a report of the period in a path
abbrev pub reported_within : Caller → PeriodReport → Option Span → Result Request Refusal
reported_within caller report None = Err (BadField field.Day)
reported_within caller report (Some period) = Ok (requests.Report caller (reports.Within report period))

-- the trail of the matter in a path
abbrev pub trail_of : Caller → Option ℕ → Result Request Refusal
trail_of caller None = Err (BadField field.Matter)
trail_of caller (Some m) = Ok (requests.Trail caller m)

-- the acts of the matter in a path
abbrev pub acts_of : Caller → Option ℕ → Result Request Refusal
acts_of caller None = Err (BadField field.Matter)
acts_of caller (Some m) = Ok (requests.Acts caller m)

abbrev pub asked_at : Place → Caller → List ℕ → List ℕ → Result Request Refusal
asked_at (place.Matter p) caller path body = of_matter caller (named_in path) (matter_ask p path body)
asked_at (place.Entry p) caller path body = of_matter caller (named_in path) (entry_ask p (part 4 path) body)
asked_at (place.Listed list) caller path body = Ok (requests.Listed caller list)
asked_at (place.Today report) caller path body = Ok (requests.Report caller (reports.Today report))
asked_at (place.AsOf report) caller path body = reported_as_of caller report (day_of (part 3 path))
asked_at (place.Within report) caller path body =
    reported_within caller report (period_in (part 3 path) (part 4 path))
asked_at place.Trail caller path body = trail_of caller (matter_of (part 3 path))
asked_at place.Acts caller path body = acts_of caller (named_in path)
asked_at place.Import caller path body = Ok (requests.Import caller body)
asked_at (place.Match text) caller path body = Ok (requests.Match caller body text)
asked_at place.Reasons caller path body = Ok (requests.Reasons caller)
asked_at place.Dismissal caller path body = dismissing_in caller body

abbrev pub called : Place → Option Caller → List ℕ → List ℕ → Result Request Refusal
called p None path body = Err NoCaller
called p (Some caller) path body = asked_at p caller path body

abbrev pub placed : Place → Message → Result Request Refusal
placed p m = if bytes_eq m.method (method_of p)
    then called p (caller_of m.callers) (path_of m.target) m.body
    else Err BadMethod

abbrev pub routed : Option Place → Message → Result Request Refusal
routed None m = Err NoRoute
routed (Some p) m = placed p m

-- the request of a message, or the first refusal
unfoldable pub request : Message → Result Request Refusal
request m = routed (place_of (path_of m.target)) m

abbrev pub heard_as : Option ℕ → Result Request Refusal → Heard
heard_as named (Ok r) = Asks r
heard_as named (Err why) = Unread named why

-- what the desk hears of a message
unfoldable pub heard_of : Message → Heard
heard_of m = heard_as (named_in (path_of m.target)) (request m)
