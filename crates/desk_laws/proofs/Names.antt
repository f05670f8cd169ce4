-- The names that the proofs of this crate cite, passed on from one place. Declares nothing.
pub use Rattle.firm_rows.proofs.Kept.{IsKept}
pub use Rattle.firm_rows.proofs.LinesStay.{balance-kept, balances-stay, edit-leaves, line-kept, lines-stay}
pub use Rattle.firm_rows.proofs.OwnLines.{balance-fits, firm_line-fits}
pub use Rattle.firm_rows.specs.Firm.{EntryRow, Firm, HeadRow, Row, SeatRow, acted, after_edit, entries_among, entry_pairs, head_pairs, of, pairs, put, rows_of, without_line}
pub use Rattle.firm_rows.specs.FirmChange.{Dismissed, FirmChange, FitsFirm, Repeated, Unmatched, after, by_balance, by_firm_line}
pub use Rattle.firm_rows.specs.FirmLines.{balance_verdict, is_bookable, is_kept_as, kept_balance}
pub use Rattle.firm_rows.specs.FirmSound.{FirmSound, IsInOrder}
pub use Rattle.firm_rows.specs.declared.ledger.BalanceKind.{BalanceKind}
pub use Rattle.firm_rows.specs.declared.ledger.Verdict.{Verdict}
pub use Rattle.json_bodies.specs.declared.bodies.ImportReply.{ImportReply}
pub use Rattle.matter_parts.specs.Changes.{IsChange, MatterChange, changed_by, last_after}
pub use Rattle.matter_parts.specs.Parts.{no_figures}
pub use Rattle.matter_parts.specs.declared.edit.Edit.{Edit}
pub use Rattle.matter_parts.specs.declared.edit.Numbered.{Numbered}
pub use Rattle.matter_rows.proofs.Covered.{sound-covered}
pub use Rattle.matter_rows.proofs.Entries.{entry_at-with, within}
pub use Rattle.matter_rows.specs.Clearings.{cleared_amount, cleared_payment, deposit_by, has_its_amount, is_clearing_by, is_deposit_cleared_by, is_deposit_returned_by, is_line_again, is_payment_cleared_by, is_return}
pub use Rattle.matter_rows.specs.Rows.{Rows, entry_at, is_gone, is_issued_state, is_of_nobody, is_purged, last_of, seen_on, with_entry}
pub use Rattle.matter_rows.specs.Sound.{IsBare, IsBareIfPurged, IsHeaded, Sound}
pub use Rattle.matter_rows.specs.declared.deposit.Deposit.{Deposit}
pub use Rattle.matter_rows.specs.declared.deposit.DepositState.{DepositState}
pub use Rattle.matter_rows.specs.declared.entry.Entry.{Entry}
pub use Rattle.matter_rows.specs.declared.head.Head.{Head}
pub use Rattle.matter_rows.specs.declared.payment.Payment.{Payment}
pub use Rattle.matter_rows.specs.declared.payment.PaymentState.{PaymentState}
pub use Rattle.statement_csv.specs.Items.{item_by, item_of_line}
pub use Rattle.statement_csv.specs.declared.item.Item.{Item}
pub use Rattle.statement_match.proofs.Apart.{entry_once, of_entry, wait_apart}
pub use Rattle.statement_match.proofs.Filling.{filled_if_sure, sure_of}
pub use Rattle.statement_match.proofs.Fronts.{front_apart, has_filled, stems}
pub use Rattle.statement_match.proofs.Members.{filter_from, flat_map_has, later, map_from}
pub use Rattle.statement_match.proofs.Picks.{found_is_there, found_passes}
pub use Rattle.statement_match.proofs.Waits.{by_waiting}
pub use Rattle.statement_match.specs.Bookings.{booking_of, is_beside, is_same_booking}
pub use Rattle.statement_match.specs.Books.{booked_by, deposit_bookings, entry_bookings, entry_waiting, own_booking, payment_bookings, row_bookings, row_waiting}
unfoldable pub use Rattle.statement_match.specs.Books.{held_of}
pub use Rattle.statement_match.specs.FirmLaws.{HasMatterNumbers}
pub use Rattle.statement_match.specs.Laws.{IsSure, with_reference, written}
unfoldable pub use Rattle.statement_match.specs.Showing.{fits, is_other_business, shows}
pub use Rattle.statement_match.specs.Waiting.{Waiting}
pub use Rattle.std.proofs.Common.{Bool, List, None, Option, Result, Some, [], ap, append-nil, append_assoc, arith, cond, eqb, false, get_or, inl, inr, length, map, not, pos, refl, subst, suc, sym, true, zero, ℕ, ◌++◌, ◌+◌, ◌-ℤ◌, ◌-◌, ◌<◌, ◌||◌, ◌∙◌, ◌∷◌, ◌≡◌, ◌≢◌}
pub use Rattle.std.proofs.lemmas.Bool.Decides.{Decides-int_eq, nat_tests}
pub use Rattle.std.proofs.lemmas.Bool.{and_from, and_parts, cond-false, cond-true, cond_both, eq-eqb, eqb-true, false≢true, or_cases, or_from, or_parts}
pub use Rattle.std.proofs.lemmas.Int.{ints}
pub use Rattle.std.proofs.lemmas.List.Elements.{Contains-append_left, Contains-append_right, Contains-get_or, filter-append}
pub use Rattle.std.specs.List.{Contains, filter, flat_map, list_any}
pub use Rattle.std.specs.Ordering.{int_eq}
pub use Rattle.std.specs.Prelude.{IfSome, IsSome, MatchBool, if◌then◌else◌, is_none, is_some, nat_le, nat_lt, ℤ}
pub use Rattle.std.specs.Str.{bytes_eq}
pub use Rattle.trust_base.specs.Refusals.{status_of}
pub use Rattle.trust_base.specs.declared.line.Line.{Line}
pub use Rattle.trust_base.specs.declared.refusal.Refusal.{Refusal}
pub use Rattle.trust_desk.specs.Dismissing.{dismiss_refusal, dismiss_reply, dismissed_unless, is_exception}
pub use Rattle.trust_desk.specs.FirmStep.{IsStopped, KindStopped, Runs, Steps, after_ask, after_asked, firm_step, kind_step}
pub use Rattle.trust_desk.specs.Heard.{Asks, Dismisses, Heard, Kind, NotRead, OfItems, OfMatter, OnlyShown, OnlyTold, Own, OwnActs, OwnAsk, OwnLine, OwnRefusal, asked_on, kind_of, own_of, own_of_item, own_of_items}
pub use Rattle.trust_desk.specs.ImportStep.{import_refusal, import_reply}
pub use Rattle.trust_desk.specs.ItemStep.{after_balance, after_item, after_items, after_told, balance_item, balance_on, count_item, counted_as, counted_by, counted_of, counts_after, firm_line_on, none_counted}
pub use Rattle.trust_desk.specs.Replies.{is_fault_reply, json_reply, refused, replied, reply_of, text_reply}
pub use Rattle.trust_desk.specs.Solo.{solo_rows}
pub use Rattle.trust_desk.specs.declared.importing.Counted.{Counted}
pub use Rattle.trust_desk.specs.declared.requests.Body.TheVariants.{Json, Refused, Text}
pub use Rattle.trust_desk.specs.declared.requests.Reply.{Reply}
pub use Rattle.matter_laws.proofs.Purging.{ask-repeat, line-repeat, purged-unapplied}
pub use Rattle.trust_matter.proofs.Steps.{step}
pub use Rattle.trust_matter.specs.Conditions.{is_repeat, is_text, number_made}
pub use Rattle.trust_matter.specs.Facts.{Asked, facts_of}
pub use Rattle.trust_matter.specs.Laws.{ALine, AnAsk, Doing, IsSameLine, all_after}
pub use Rattle.trust_matter.specs.LineStep.{IsApplied, LineFacts, after_line_effect, awaits_no_line, dated_by, first_reason, has_no_line, is_of_another_amount, last_by, line_effect, line_facts, line_on, matched, reasons, rows_after_line, told_by}
pub use Rattle.trust_matter.specs.Step.{edit_on, first, refusal, rows_after}
pub use Rattle.trust_matter.specs.declared.ask.Ask.{Ask}
pub use Rattle.trust_matter.specs.declared.bank_line.BankLine.{BankLine}
pub use Rattle.trust_matter.specs.declared.line_verdict.DatedEdit.{DatedEdit}
pub use Rattle.trust_matter.specs.declared.line_verdict.LineEffect.{LineEffect}
pub use Rattle.trust_matter.specs.declared.line_verdict.Reason.{Reason}
pub use Rattle.desk_laws.specs.Counts.{count_sum}
pub use Rattle.desk_laws.specs.Matching.{AreNameless, FilledLinesAreApplied, FilledLinesAreInBook, SecondMatchFillsNothing, items_of}
pub use Rattle.desk_laws.specs.OnceOnly.{BalanceOnce, DayRun, FirmLineOnce, IsBalanceOver, IsRepeated, IsSameFirmLine, IsUnmatched, LineOnceOnly, OnceOnly, RunsOn}
pub use Rattle.desk_laws.specs.Statuses.{HasItsStatus}
pub use Rattle.matter_rows.specs.declared.act.Caller.{Caller}
