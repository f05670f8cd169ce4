-- The names that the proofs of this crate cite, passed on from one place. Declares nothing.
pub use Rattle.byte_streams.specs.CsvRecords.{rest_records}
pub use Rattle.day_sheet.specs.Records.{ask_of, by_cashier, dismissing, dismissing_in, heard_as, is_dismissal, of_matter, of_verb, text_at, verb_in}
unfoldable pub use Rattle.day_sheet.specs.Records.{asked_of, heard_of}
pub use Rattle.clap.specs.Words.{Text}
pub use Rattle.command_line.specs.Program.{Means, MeansNothing, db_of, words_of}
pub use Rattle.csv.specs.Reading.{ReadRecord, Ready, default_config, source_of}
unfoldable pub use Rattle.csv.specs.Reading.{Reached, strip_bom}
pub use Rattle.csv.specs.Records.{fields_of}
pub use Rattle.firm_rows.specs.Firm.{Firm, empty_firm, of}
pub use Rattle.portal_http.specs.Clients.{Comes}
pub use Rattle.portal_http.specs.Output.{Output}
pub use Rattle.portal_http.specs.ServedAll.{AreServedInTurn, IsClientServed}
pub use Rattle.portal_http.specs.declared.stream.StreamEnd.{StreamEnd}
pub use Rattle.std.proofs.Common.{Bool, Bor, Err, IfOk, IfSome, List, None, Ok, OnOk, Option, Result, Some, [], ap, append_assoc, arith, cond, false, inl, inr, length, length-append, map, nat_lt, not, option_map, refl, subst, suc, sym, take, true, ℕ, ◌&&◌, ◌++◌, ◌+◌, ◌<◌, ◌||◌, ◌∙◌, ◌∷◌, ◌≡◌, ◌≢◌, ◌≤◌, ◌⊎◌}
pub use Rattle.std.proofs.KnownBytes.{Appends-nil, Appends-trans}
pub use Rattle.std.proofs.lemmas.Bool.Decides.{nat_tests}
pub use Rattle.std.proofs.lemmas.List.{append-nil, take-append-le}
pub use Rattle.std.specs.Io.KnownBytes.{Appends, Keeps}
pub use Rattle.std.specs.List.{concat, filter}
pub use Rattle.std.specs.Prelude.{IsOk, ◌==◌}
pub use Rattle.std.specs.String.{string_bytes}
pub use Rattle.trust_base.specs.declared.limits.TheConstants.{MAX_FILE_BYTES}
pub use Rattle.trust_base.specs.declared.refusal.Refusal.{Refusal}
pub use Rattle.trust_base.specs.declared.refusal.Refusal.TheVariants.{Memory, Store, TooLarge}
pub use Rattle.trust_base.specs.declared.refusal.StoreFault.{StoreFault}
pub use Rattle.trust_desk.proofs.Crashes.{leave-as, leave-failed}
pub use Rattle.trust_desk.specs.Crashes.{IsAfterFirst, IsMade, MayLeave}
pub use Rattle.trust_desk.specs.FirmStep.{Steps, after_asked, firm_step}
pub use Rattle.trust_desk.specs.Heard.{Asks, Heard, asked_on, concerns, is_the, names}
pub use Rattle.trust_desk.specs.Replies.{is_fault_body, is_fault_reply, refused}
pub use Rattle.trust_desk.specs.declared.requests.Body.{Body}
pub use Rattle.trust_desk.specs.declared.requests.Body.TheVariants.{Json, Refused}
pub use Rattle.trust_desk.specs.declared.requests.Reply.{Reply}
pub use Rattle.trust_store.specs.Crashes.{LeavesAlone, LeavesOr}
pub use Rattle.trust_store.specs.Seen.{Seen}
pub use Rattle.cashier.specs.Calls.{IsSame}
pub use Rattle.trust_desk.specs.Calls.{Counts, IsAny, KeepsBook}
pub use Rattle.cashier.specs.Outcome.{Ran, put_outcome, store_outcome, stream_outcome}
pub use Rattle.cashier.specs.Sheet.{Cut, CutsLine, Ends, IsBehindLines, IsWhole, LargeEnds, Leaves, LinesAreKept, OwnRecordsAlone, RecordEnds, RunEnds, SheetIsKept, TellsLine, all_accepted, body_line, end_of, firm_from, is_accepting, lines_at, lines_from, names_matter, ran_by, ran_refused, record_step, records_run, refusal_line, reply_line, sheet_records}
unfoldable pub use Rattle.cashier.specs.Sheet.{line_of}
pub use Rattle.cashier.specs.Views.{Known}
pub use Rattle.cashier.specs.declared.outcome.Outcome.{Outcome}
pub use Rattle.cashier.specs.declared.sheet.SheetEnd.{SheetEnd}
pub use Rattle.std.proofs.lemmas.Int.{ints}
