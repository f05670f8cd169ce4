-- The names that the proofs of this crate cite, passed on from one place. Declares nothing.
pub use Rattle.csv.specs.Reading.{ReadRecord, Ready, default_config, reader_config, reader_state, reader_trim, records, source_of, took_first}
unfoldable pub use Rattle.csv.specs.Reading.{Reached, strip_bom}
pub use Rattle.csv.specs.Records.{fields_of}
unfoldable pub use Rattle.statement_csv.specs.Items.{items_from}
pub use Rattle.std.proofs.Common.{Bool, Bor, List, None, Option, Some, [], add-one, add-zero, ap, append-nil, append_assoc, arith, cond, drop, false, fold, get_or, inl, inr, length, map, not, option_copied, refl, rules, subst, suc, sym, take, true, unwrap_or, zero, ℕ, ◌++◌, ◌+◌, ◌-◌, ◌<◌, ◌==◌, ◌∙◌, ◌∷◌, ◌≡◌, ◌≢◌, ◌≤◌}
pub use Rattle.std.proofs.lemmas.Bool.{and_parts, cases_Bool, cond-false, cond-true, eq-eqb, eqb-true}
pub use Rattle.std.proofs.lemmas.Bool.Decides.{nat_tests}
pub use Rattle.std.proofs.lemmas.List.{at_drop_more, drop_all, drop_more, get_or-drop, length-drop, length-map, map-append, map-id, take_all, take_more, take_rest}
pub use Rattle.std.proofs.lemmas.List.Elements.{Contains-append_cases, Contains-append_left, Contains-append_right, filter_agree}
pub use Rattle.std.proofs.lemmas.List.Sorted.{IsNonDecreasingBy-drop, IsNonDecreasingBy-from_sort_by_key, IsPartitionPoint-from_clause, IsPartitionedBy-leb, IsPartitionedBy-ltb, answers_always, length_permutation}
pub use Rattle.std.proofs.lemmas.Slice.Eq.{bytes_eq-Decides}
pub use Rattle.std.specs.List.{AllPairs, Contains, count_by, filter, find, flat_map, list_any}
pub use Rattle.std.specs.List.Sorted.{IsNonDecreasingBy, IsPartitionPoint, IsStableByKey, IsStrictlyIncreasing, ties}
pub use Rattle.std.specs.Ordering.{int_eq, is_lt, nat_cmp}
pub use Rattle.std.specs.Prelude.{encode_utf8, encode_utf8_all, nat_le, nat_lt, option_map, option_to_list, slice_get, unsigned_abs, ◌&&◌, ◌||◌}
pub use Rattle.std.specs.Str.{IsUtf8, bytes_eq}
unfoldable pub use Rattle.std.specs.Str.{is_utf8}
pub use Rattle.trust_base.specs.declared.line.Line.{Line}
pub use Rattle.statement_lines.specs.Keys.{amount_key, booking_key, claim_key, line_key, next_key, waiting_key}
unfoldable pub use Rattle.statement_lines.specs.Keys.{text_key}
pub use Rattle.statement_lines.specs.Lookups.{IsKeyed, elements, has_key}
pub use Rattle.statement_lines.specs.Marks.{entry_marks, is_shown, line_marks, mark_of, marks_at, reference_mark}
unfoldable pub use Rattle.statement_lines.specs.Marks.{marks_from, window_marks}
pub use Rattle.statement_lines.specs.Numbers.{is_among, without_zeros}
unfoldable pub use Rattle.statement_lines.specs.Numbers.{is_number, is_telling, line_numbers, telling_after}
pub use Rattle.statement_lines.specs.OpenLines.{is_named_like, is_open, is_open_fit, is_open_like}
pub use Rattle.statement_lines.specs.Records.{Records, Rows, line_at, lines_from, no_records, rows_of, with_record}
unfoldable pub use Rattle.statement_lines.specs.Records.{numbers_from, records_of}
pub use Rattle.statement_lines.specs.RowsLeft.{Adds, HasLeft, Holds, left_of, outcome_if}
unfoldable pub use Rattle.statement_lines.specs.Showing.{begins_with_reference, fits, has_reference, has_reference as has_reference_text, shows}
pub use Rattle.statement_lines.specs.Tokens.{goes_on, tokens}
unfoldable pub use Rattle.statement_lines.specs.Tokens.{begins, numeral_len, numeral_len as numeral_length, token_in_front, tokens_after}
pub use Rattle.statement_lines.specs.Waiting.{Waiting}
pub use Rattle.statement_lines.specs.Written.{row_as, text_of}
unfoldable pub use Rattle.statement_lines.specs.Written.{rows_by}
pub use Rattle.statement_lines.specs.declared.book_entry.BookEntry.{BookEntry}
pub use Rattle.statement_lines.specs.declared.line_outcome.LineOutcome.{LineOutcome}
pub use Rattle.std.proofs.lemmas.Int.{ints}
