-- The names that the proofs of this crate cite, passed on from one place. Declares nothing.
unfoldable pub use Rattle.matchit.proofs.OnLiterals.{matchit_on_literals}
pub use Rattle.matchit.specs.Level.{IsText}
pub use Rattle.matchit.specs.Route.{Scan, parse_route}
pub use Rattle.matchit.specs.Router.{InsertsRead, RouteOf, route_from}
pub use Rattle.matchit.specs.Rows.{RowsOf, catch_all_token, comes_before, param_token}
pub use Rattle.matchit.specs.Seek.{first, has_slash, longest_suffix, or_else, own, same_text, segment, step, with_suffix}
unfoldable pub use Rattle.matchit.specs.Seek.{param_step, seek}
pub use Rattle.matchit.specs.declared.error.InsertError.{InsertError}
pub use Rattle.matter_rows.specs.declared.act.Caller.{Caller}
pub use Rattle.portal_messages.specs.Fields.{path_of}
pub use Rattle.portal_messages.specs.declared.message.Message.{Message}
pub use Rattle.serde_json.specs.View.{members_view, view}
pub use Rattle.std.proofs.Common.{Bool, Err, List, None, Ok, Option, Result, Some, [], add-one, ap, arith, cond, drop, drop-cons, false, get_or, length, refl, subst, suc, sym, true, zero, ℕ, ◌++◌, ◌<◌, ◌∙◌, ◌∷◌, ◌≡◌, ◌≤◌}
pub use Rattle.std.proofs.lemmas.Result.{err_from_is_err_and}
pub use Rattle.std.proofs.lemmas.Str.{IsUtf8-from_is_utf8, is_utf8-from_IsUtf8}
pub use Rattle.std.specs.Prelude.{IfErr, codes, ltb, option_and_then, option_map, unwrap_or, ⊤, ◌-◌, ◌==◌}
pub use Rattle.std.specs.Str.{IsUtf8, bytes_eq}
unfoldable pub use Rattle.std.specs.Str.{is_utf8}
pub use Rattle.trust_base.specs.Texts.{day_of, entry_of, matter_of}
pub use Rattle.trust_base.specs.declared.line.Line.{Line}
pub use Rattle.trust_base.specs.declared.refusal.Field.{Field}
pub use Rattle.trust_base.specs.declared.refusal.Refusal.{Refusal}
pub use Rattle.trust_base.specs.declared.refusal.Refusal.TheVariants.{BadField, BadMethod, NoCaller, NoRoute}
pub use Rattle.trust_desk.specs.Heard.{Asks, Unread, is_the, names}
pub use Rattle.trust_base.specs.Periods.{Span}
pub use Rattle.trust_desk.specs.declared.requests.CallerList.{CallerList}
pub use Rattle.book_reports.specs.declared.report.DayReport.{DayReport}
pub use Rattle.book_reports.specs.declared.report.PeriodReport.{PeriodReport}
pub use Rattle.trust_desk.specs.declared.requests.Request.{Request}
pub use Rattle.trust_matter.specs.declared.ask.Ask.{Ask}
pub use Rattle.portal_requests.specs.Asked.{entry_ask, matter_ask, numbered_ask}
pub use Rattle.portal_requests.specs.Bodies.{body_in, has_keys, is_key, is_object, object_with, text_in, texts}
pub use Rattle.portal_requests.specs.Callers.{caller_of}
pub use Rattle.portal_requests.specs.Dismissals.{dismissing, dismissing_in, line_in, line_keys}
pub use Rattle.portal_requests.specs.Paths.{named_in, period_in}
unfoldable pub use Rattle.portal_requests.specs.Paths.{part}
pub use Rattle.portal_requests.specs.Places.{method_of}
pub use Rattle.portal_requests.specs.Requests.{asked_at, called, heard_as, of_matter, placed, reported_as_of, reported_within, routed}
unfoldable pub use Rattle.portal_requests.specs.Requests.{heard_of, request}
pub use Rattle.portal_requests.specs.Routing.{place_of}
pub use Rattle.portal_requests.specs.Table.{IsTaken, row_in, rows_of}
unfoldable pub use Rattle.portal_requests.specs.Table.{AreTaken, TABLE, route_rows, the_routes}
pub use Rattle.portal_requests.specs.declared.routes.EntryPlace.{EntryPlace}
pub use Rattle.portal_requests.specs.declared.routes.Place.{Place}
pub use Rattle.std.proofs.lemmas.Bool.Decides.{nat_tests}
pub use Rattle.std.proofs.lemmas.Int.{ints}
