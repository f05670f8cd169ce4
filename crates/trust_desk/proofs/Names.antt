-- The names that the proofs of this crate cite, passed on from one place. Declares nothing.
pub use Rattle.firm_rows.proofs.Trail.{sound-trail}
pub use Rattle.firm_rows.proofs.Changed.{of-after_edit, of_other-after_edit}
pub use Rattle.firm_rows.proofs.Kept.{IsKept, edit-sound, ledger-least}
pub use Rattle.firm_rows.proofs.LinesStay.{edit-leaves}
pub use Rattle.firm_rows.proofs.OwnLines.{balance-fits, firm_line-fits}
pub use Rattle.firm_rows.specs.Firm.{Firm, acted, after_change, after_edit, of}
pub use Rattle.firm_rows.specs.FirmChange.{FirmChange, after, by_balance, by_firm_line, by_line}
pub use Rattle.firm_rows.specs.FirmLines.{balance_verdict, firm_verdict, kept_balance}
pub use Rattle.firm_rows.specs.FirmSound.{FirmSound, IsFirmVerdict}
pub use Rattle.firm_rows.specs.declared.ledger.BalanceKind.{BalanceKind}
pub use Rattle.firm_rows.specs.declared.ledger.FirmLine.{FirmLine}
pub use Rattle.firm_rows.specs.declared.ledger.Verdict.{Verdict}
pub use Rattle.json_bodies.specs.Bodies.{entry_body, matter_body, receipt_body}
pub use Rattle.json_bodies.specs.declared.bodies.ImportReply.{ImportReply}
pub use Rattle.matter_parts.specs.Changes.{IsChange, MatterChange, changed, changed_by, last_after}
pub use Rattle.matter_parts.specs.Parts.{HoldsOn, IsPart, IsWhole, Part, entry_in, is_held_or_none, kept_at}
pub use Rattle.matter_parts.specs.declared.edit.Edit.{Edit}
pub use Rattle.matter_parts.specs.declared.edit.Numbered.{Numbered}
pub use Rattle.matter_parts.specs.declared.kept.Kept.{Kept}
pub use Rattle.matter_rows.proofs.Covered.{sound-covered}
pub use Rattle.matter_rows.specs.Rows.{Rows, entry_at}
pub use Rattle.matter_rows.specs.Sound.{Sound}
pub use Rattle.matter_rows.specs.declared.entry.Entry.{Entry}
pub use Rattle.matter_rows.specs.declared.payment.PaymentState.{PaymentState}
pub use Rattle.statement_csv.specs.Items.{items}
pub use Rattle.statement_csv.specs.Reading.{Gives, LacksHeader}
pub use Rattle.statement_csv.specs.declared.item.Item.{Item}
pub use Rattle.std.proofs.Common.{Bool, Err, List, None, Ok, Option, Result, Some, [], ap, append-nil, append_assoc, arith, cond, false, fold, get_or, inl, inr, length, length-append, pos, refl, rules, subst, sym, take, true, ℕ, ◌++◌, ◌+◌, ◌<◌, ◌||◌, ◌∙◌, ◌∷◌, ◌≡◌, ◌≢◌, ◌≤◌, ◌⊎◌}
pub use Rattle.std.proofs.lemmas.Bool.{and_from, cond-false, cond_both, eqb-false, eqb-true, false≢true, or_parts}
pub use Rattle.std.proofs.lemmas.Bool.Decides.{nat_tests}
pub use Rattle.std.proofs.lemmas.Result.{IfOk-weaker, err_from_is_err_and}
pub use Rattle.std.specs.List.{list_any}
pub use Rattle.std.specs.Prelude.{IfOk, IfSome, IsOk, MatchBool, OnErr, OnOk, is_none, nat_lt, option_map, unwrap_or, ⊤, ◌==◌}
pub use Rattle.trust_base.specs.Refusals.{is_fault, refused_by}
pub use Rattle.trust_base.specs.declared.line.Line.{Line}
pub use Rattle.trust_base.specs.declared.refusal.Refusal.{Refusal}
pub use Rattle.trust_base.specs.declared.refusal.StoreFault.{StoreFault}
pub use Rattle.trust_matter.proofs.Steps.{step}
pub use Rattle.trust_matter.specs.Conditions.{is_repeat, is_whole}
pub use Rattle.trust_matter.specs.Facts.{Asked, Facts, facts_of, fund_named, number_named}
pub use Rattle.trust_matter.specs.KeptFacts.{holds_for, holds_for_line}
pub use Rattle.trust_matter.specs.LineStep.{LineDecides, after_line_effect, line_on, rows_after_line}
pub use Rattle.trust_matter.specs.Step.{HasAmount, IsDecided, MayRefuse, cancelled, decided, edit_on, first, refusal, rows_after, with_claim, with_payment}
pub use Rattle.trust_matter.specs.declared.ask.Ask.{Ask}
pub use Rattle.trust_matter.specs.declared.bank_line.BankLine.{BankLine}
pub use Rattle.trust_matter.specs.declared.line_verdict.DatedEdit.{DatedEdit}
pub use Rattle.trust_matter.specs.declared.line_verdict.LineEffect.{LineEffect}
pub use Rattle.trust_reports.specs.TextsOfLedgers.{ledger_card}
pub use Rattle.trust_store.proofs.Named.{line-held, named-held}
pub use Rattle.trust_store.specs.Books.{counted, counted_fault}
pub use Rattle.trust_store.specs.Calls.{IsRead, IsWrite, IsWriteIf}
pub use Rattle.trust_desk.specs.Answered.{IsAnswered}
pub use Rattle.trust_desk.specs.Applied.{IsItemApplied, IsImported}
pub use Rattle.trust_desk.specs.Beside.{AgreesWith, IsAppliedBeside, KeepsBeside, StandsBeside, beside, lines_after}
pub use Rattle.trust_desk.specs.Calls.{Counts, KeepsBook}
pub use Rattle.trust_desk.specs.Counts.{counted_body, counted_end, counted_refusal, counted_replies, counted_reply, is_store}
pub use Rattle.trust_desk.specs.Crashes.{AreFront, AreNoFaults, AreNoFaultsButLast, IsAfterFirst, IsMade, IsMadeInRun, IsOfItems, KindIsMade, MayLeave, MayLeaveChange, before_fault, is_fault_end, is_stopped}
pub use Rattle.trust_desk.specs.Dismissing.{dismiss_refusal, dismissed_unless, is_exception}
pub use Rattle.trust_desk.specs.FirmStep.{IsFaultReply, IsStopped, IsUnstopped, KindStopped, Runs, RunsSoundly, SoundRunsAreRuns, Steps, Stopped, after_ask, after_asked, firm_step, kind_step}
pub use Rattle.trust_desk.specs.Heard.{Asks, Dismisses, Heard, Kind, NotRead, OfActs, OfItems, OfMatter, OnlyShown, OnlyTold, Own, OwnActs, OwnAsk, OwnLine, OwnRefusal, asked_on, concerns, heard, is_the, kind_concerns, kind_names, kind_of, kind_own, names, own_if, own_of, own_of_item, own_of_items, project, told}
pub use Rattle.trust_desk.specs.ImportStep.{IsAfterFront, counts_text, import_refusal, import_reply, imported, is_not_of_firm, items_unless}
pub use Rattle.trust_desk.specs.Imports.{AlwaysSound, AreBelow, AreFirst, AreRead, Imports, IsStop, IsUnnamed, KeepsAllUnnamed, Told, counted_stop, stop_at}
pub use Rattle.trust_desk.specs.ItemStep.{after_item, after_items, after_told, balance_item, balance_on, count_item, counted_as, counted_by, counted_of, counted_verdict, counts_after, firm_line_on, names_item, none_counted}
pub use Rattle.trust_desk.specs.Plan.{IsReadFor, status_of_edit, IsReadOf}
pub use Rattle.trust_desk.specs.Replies.{body_of, is_fault_body, is_fault_reply, json_reply, made_text, refused, replied, reply_for, reply_of, said, shown_text, success_of, text_reply}
pub use Rattle.trust_desk.specs.Solo.{own_reply, own_rows, solo_replies, solo_rows}
pub use Rattle.trust_desk.specs.declared.importing.Counted.{Counted}
pub use Rattle.trust_desk.specs.declared.importing.ImportEnd.{ImportEnd}
pub use Rattle.trust_desk.specs.declared.importing.ImportStop.{ImportStop}
pub use Rattle.trust_desk.specs.declared.requests.Body.{Body}
pub use Rattle.trust_desk.specs.declared.requests.Body.TheVariants.{Json}
pub use Rattle.trust_desk.specs.declared.requests.Reply.{Reply}
pub use Rattle.trust_desk.specs.declared.requests.Request.{Request}
pub use Rattle.std.proofs.lemmas.Int.{ints}
pub use Rattle.statement_match.proofs.Picks.{found_passes}
pub use Rattle.trust_store.specs.Named.{IsPartFor}
pub use Rattle.matter_rows.specs.declared.act.Caller.{Caller}
pub use Rattle.trust_base.specs.declared.refusal.Refusal.TheVariants.{Memory}
pub use Rattle.trust_store.specs.Seen.{Seen}
