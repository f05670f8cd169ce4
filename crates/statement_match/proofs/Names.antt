-- The names that the proofs of this crate cite, passed on from one place. Declares nothing.
pub use Rattle.firm_rows.specs.Firm.{EntryRow, Firm, HeadRow, Row, SeatRow, entry_pairs, head_pairs, of, pairs, put, seat_pairs}
pub use Rattle.firm_rows.specs.Sums.{sum_of}
pub use Rattle.matter_rows.specs.declared.deposit.DepositState.{DepositState}
pub use Rattle.matter_rows.specs.declared.entry.Entry.{Entry}
pub use Rattle.matter_rows.specs.declared.payment.PaymentState.{PaymentState}
pub use Rattle.statement_csv.specs.Items.{item_of_line, items_after_header, line_in}
unfoldable pub use Rattle.statement_csv.specs.Items.{item_of, items_from}
pub use Rattle.statement_csv.specs.References.{named, reference_text}
unfoldable pub use Rattle.statement_csv.specs.References.{entry_named}
pub use Rattle.statement_lines.proofs.Alike.{beside_narrows, fits_narrows, line_beside_narrows, open_fit_narrows, open_like_narrows, same_narrows}
pub use Rattle.statement_lines.proofs.Found.{Narrows, any_found, any_kept, counted, counted_kept, filter_among, filter_both, filtered, filtered_kept, find_both, find_elements, first_found, first_kept, find_among}
pub use Rattle.statement_lines.proofs.Members.{filter_from, filter_has, find_has, flat_map_from, flat_map_has, later, map_from}
pub use Rattle.statement_lines.specs.Bookings.{amount_if, booking_of, is_beside, is_same_booking, total_of}
pub use Rattle.statement_lines.specs.EntryStates.{is_held, is_held_on}
pub use Rattle.statement_lines.specs.Held.{Held}
pub use Rattle.statement_lines.specs.Keys.{amount_key, booking_key, day_key, entry_key, line_key, reference_key, waiting_key}
unfoldable pub use Rattle.statement_lines.specs.Keys.{text_key}
pub use Rattle.statement_lines.specs.Known.{Known}
pub use Rattle.statement_lines.specs.Lookups.{elements}
pub use Rattle.statement_lines.specs.Marks.{is_shown, mark_of}
pub use Rattle.statement_lines.specs.OpenLines.{is_claimed, is_named_like, is_open, is_open_fit, is_open_like}
pub use Rattle.statement_lines.specs.Places.{places_with}
pub use Rattle.statement_lines.specs.Records.{Records, Rows, line_at, lines_from, rows_of}
unfoldable pub use Rattle.statement_lines.specs.Records.{records_of}
pub use Rattle.statement_lines.specs.Relations.{has_amount_back, has_its_amount, names}
unfoldable pub use Rattle.statement_lines.specs.Relations.{stands}
unfoldable pub use Rattle.statement_lines.specs.Showing.{fits, shows}
pub use Rattle.statement_lines.specs.Waiting.{Waiting, waiting_deposit, waiting_payment}
pub use Rattle.statement_lines.specs.Written.{named_row, row_as, text_of}
unfoldable pub use Rattle.statement_lines.specs.Written.{rows_by}
pub use Rattle.statement_lines.specs.declared.book_entry.BookEntry.{BookEntry}
pub use Rattle.statement_lines.specs.declared.booking.Booking.{Booking}
pub use Rattle.statement_lines.specs.declared.line_outcome.LineOutcome.{LineOutcome}
pub use Rattle.std.proofs.Common.{Bool, List, None, Option, Some, [], ap, append-nil, append_assoc, arith, cond, drop, false, flat_map, fold, get_or, inl, inr, length, length-append, map, neg_ℤ, negsuc, not, pos, refl, rules, subst, suc, sym, take, true, zero, ℕ, ℤ, ◌%◌, ◌&&◌, ◌*◌, ◌++◌, ◌+ℤ◌, ◌+◌, ◌-◌, ◌/◌, ◌<◌, ◌==◌, ◌^◌, ◌↔◌, ◌∙◌, ◌∷◌, ◌≡◌, ◌≢◌, ◌≤ℤ◌, ◌≤◌, ◌⊎◌}
pub use Rattle.std.proofs.lemmas.Bool.{false≢true, and_from, and_left, and_parts, and_right, cases_Bool, cases_order, cond-false, cond-true, eq-eqb, eqb-true, false_from_ne_true, le-leb, leb-false, lt-leb, or_from, or_left, or_parts, cases_eq, ltb-false, not-false, not-true}
pub use Rattle.std.proofs.lemmas.Bool.Decides.{nat_tests}
pub use Rattle.std.proofs.lemmas.Grind.{common_steps}
pub use Rattle.std.proofs.lemmas.Int.{ints, to_z-of_z}
pub use Rattle.std.proofs.lemmas.List.{at_drop_more, drop_all, get_or-map, get_or_default, length-map, length-take, map-append, take-append-le, take_all, get_or-take}
pub use Rattle.std.proofs.lemmas.List.Elements.{Contains-append_cases, Contains-append_right, filter_more, All-contains_itself, All-weaker}
pub use Rattle.std.proofs.lemmas.List.Filters.{dedup_is}
pub use Rattle.std.proofs.lemmas.List.Folds.{list_all-append, list_any_at, find_at, list_any_none}
pub use Rattle.std.proofs.lemmas.List.Kept.{AllPairs-from_increasing, Contains-dedup_nat, Contains-from_dedup}
pub use Rattle.std.proofs.lemmas.List.Sorted.{Contains-permutation, IsPermutation-sym}
pub use Rattle.std.proofs.lemmas.List.Sums.{fold_more, length-filter, fails_before_first, get_or-le-sum_by, passes_at_first, sum_by-cons, sum_by_more_le}
pub use Rattle.std.proofs.lemmas.Map.Keys.{IsStrictlyIncreasing-dedup}
pub use Rattle.std.proofs.lemmas.Option.{same_Some, slice_get_past, slice_get_read, get_or_from_slice_get, slice_get_within}
pub use Rattle.std.proofs.lemmas.Slice.Eq.{bytes_eq-Decides}
pub use Rattle.std.specs.List.{Contains, count_by, filter, find, list_all, list_any, position_or_len}
pub use Rattle.std.specs.Option.{unwrap_or}
pub use Rattle.std.specs.Ordering.{int_eq}
pub use Rattle.std.specs.Prelude.{nat_le, nat_lt, option_map, option_to_list, slice_get, unsigned_abs, ◌||◌}
pub use Rattle.std.specs.Str.{bytes_eq}
pub use Rattle.trust_base.specs.BankTexts.{is_printed_byte}
unfoldable pub use Rattle.trust_base.specs.BankTexts.{is_bank_text}
pub use Rattle.trust_base.specs.declared.line.Line.{Line}
pub use denote.Ref.{Bor}
pub use Rattle.statement_match.specs.Books.{deposit_waiting, entry_waiting, own_booking, payment_waiting, row_bookings, row_waiting, with_matters}
unfoldable pub use Rattle.statement_match.specs.Books.{held_of}
pub use Rattle.statement_match.specs.DaySums.{amount_of, are_together, day_sums, day_with, held_days, lesser, same_day}
unfoldable pub use Rattle.statement_match.specs.DaySums.{first_day, least}
pub use Rattle.statement_match.specs.Entries.{know_exception, know_own_line, know_row, none_known, row_entries}
unfoldable pub use Rattle.statement_match.specs.Entries.{known_of}
pub use Rattle.statement_match.specs.FirmLaws.{FilledWaits, HasMatterNumbers, IsHeldRow, IsIssuedRow, NoneIsNamedTwiceByFirms, OtherMattersOnlyTakeAway, WaitApart}
pub use Rattle.statement_match.specs.Grounds.{numbered_key, plain_pairs}
unfoldable pub use Rattle.statement_match.specs.Grounds.{numbered}
pub use Rattle.statement_match.specs.Laws.{AreNamedApart, AreWritten, FillsWhatIsSure, FillsWithWaiting, HasLess, IsPart, IsSure, Kept, LeftOut, MoreOnlyTakesAway, Named, NoneIsNamedTwice, NoneOf, None_left, OnlyReferencesChange, TwoEntriesAreLeft, TwoLinesAreLeft, With, Without, WritesWhatIsSure, with_reference, written, written_as, written_of}
pub use Rattle.statement_match.specs.Misfits.{entry_of}
pub use Rattle.statement_match.specs.OwnLines.{own_before, own_with}
pub use Rattle.statement_match.specs.Candidates.{candidate_of, named_exception}
unfoldable pub use Rattle.statement_match.specs.Candidates.{fit_numbers}
unfoldable pub use Rattle.statement_match.specs.Reasons.{reason_for}
pub use Rattle.statement_match.specs.Rule.{filled_with, is_beside_booked, outcomes}
unfoldable pub use Rattle.statement_match.specs.Rule.{becomes, fill, is_doubled, is_in_book}
pub use Rattle.statement_match.specs.StatementLaws.{HasLinesWritten, HasReferences, IsImported, IsReference, ReadsBack}
pub use Rattle.statement_match.specs.Statements.{written_rows}
unfoldable pub use Rattle.statement_match.specs.Statements.{statement_text}
pub use Rattle.statement_match.specs.Unmatched.{told, told_by, told_of_line}
unfoldable pub use Rattle.statement_match.specs.Unmatched.{told_from, told_unreadable}
pub use Rattle.statement_match.specs.declared.unmatched.UnmatchedRecord.{UnmatchedRecord}
