-- The names that the proofs of this crate cite, passed on from one place. Declares nothing.
pub use Rattle.firm_rows.specs.Countable.{AreCountable, IsRowInRange, MOST_ROWS}
pub use Rattle.firm_rows.specs.Firm.{EntryRow, Firm, HeadRow, SeatRow, empty_firm, of, pairs, seat_pairs, with_acts, with_trail}
pub use Rattle.firm_rows.specs.declared.ledger.BalanceRow.{BalanceRow}
pub use Rattle.firm_rows.specs.declared.dismissal.Dismissal.{Dismissal}
pub use Rattle.firm_rows.specs.declared.matter_act.MatterAct.{MatterAct}
pub use Rattle.matter_parts.specs.Parts.{AreFigures, AreNumbered, IsPart, IsWhole, Part, entry_in, is_held, is_it, is_named, kept_in, named_part, target_by}
pub use Rattle.matter_parts.specs.declared.figures.Figures.{Figures}
pub use Rattle.matter_parts.specs.declared.kept.Kept.{Kept}
pub use Rattle.matter_rows.specs.Rows.{Rows, unopened}
pub use Rattle.matter_rows.specs.Shares.{number_or_none, target_in}
pub use Rattle.matter_rows.specs.declared.seat.Seat.{Seat}
pub use Rattle.sql_rows.proofs.KeyedRows.{apart_below, int_eq-itself, int_eq-nat}
pub use Rattle.sql_rows.proofs.RowOrder.{all-find, find-sort_by, found_passes}
pub use Rattle.sql_rows.specs.Columns.{kind_column}
pub use Rattle.sql_rows.specs.Heads.{HasHead, HasTotals, IsHead, IsHolder, client_column, closed_column, purged_column}
pub use Rattle.sql_rows.specs.Meaning.{AreSound, IsWrittenBalance, IsWrittenHead, balance_from, day_or_none, figures_from, firm_from, firm_line_from, head_from, kept_from, matter_from, matters_from, part_from, seat_from}
pub use Rattle.sql_rows.specs.Standing.{StandsSound, firm_in}
pub use Rattle.sql_rows.specs.Steps.{head_at}
pub use Rattle.sql_schema.specs.declared.layout.Layout.{Layout}
pub use Rattle.sql_tables.proofs.Calls.{IsQuery, answers, asked_left, fails_kept, kept_either, kept_unchanged, leaves_on, leaves_then}
pub use Rattle.sql_tables.proofs.Means.{act_scan_asks, act_scan_selects, acts_read_asks, acts_read_selects, balance_read_asks, balance_read_selects, balance_scan_asks, balance_scan_selects, dismissal_scan_asks, dismissal_scan_selects, entries_read_asks, entries_read_selects, entry_read_asks, entry_read_selects, exception_scan_asks, exception_scan_selects, firm_scan_asks, firm_scan_selects, head_read_asks, head_read_selects, head_scan_asks, head_scan_selects, journal_scan_asks, journal_scan_selects, next_head_asks, next_head_selects, seats_read_asks, seats_read_selects}
pub use Rattle.sql_tables.proofs.ReadLemmas.{act_scan_answer, acts_read_answer, balance_read_answer, balance_scan_answer, dismissal_scan_answer, entries_read_answer, entry_read_answer, exception_scan_answer, firm_scan_answer, head_read_answer, head_scan_answer, journal_scan_answer, next_head_answer, seats_read_answer}
pub use Rattle.sql_tables.specs.Given.{head_given}
pub use Rattle.sql_tables.specs.Lists.{Lists, lists_in}
pub use Rattle.sql_tables.specs.Reading.{IsKept, IsSelect, LeavesAll}
pub use Rattle.sql_tables.specs.Rows.{Balance, Entry, FirmLine, Head, act_values, balance_cmp, balance_shown, balance_values, balances_in, entries_in, entries_of, exception_values, firm_line_values, head_in, head_shown, heads_in, is_balance_at, is_entry_at, is_head, is_past, movement_values, no_shown, numbered_shown, seat_shown, seats_in, seats_of}
pub use Rattle.sql_tables.specs.Standing.{Stands}
pub use Rattle.sqlite.proofs.Callers.{begins_as, given_begin, unchanged_then}
pub use Rattle.sqlite.proofs.StateLemmas.{survives_then, survives_weaker}
pub use Rattle.sqlite.specs.Effect.{Database}
pub use Rattle.sqlite.specs.Held.{Held, state}
pub use Rattle.sqlite.specs.State.{Fails, HasCleanDisk, IsUnchanged, ShowsRows, State, Survives}
unfoldable pub use Rattle.sqlite.specs.State.{Begins, CommitsShowing, FailsToQuery, Shown}
pub use Rattle.sqlite.specs.Values.{bound}
pub use Rattle.sqlite_keyed.proofs.ListLemmas.{all_both, all_unmap, all_weaker, filter-map, filter_all, filter_none, none_from_any, slice_get-filter}
pub use Rattle.sqlite_keyed.proofs.SliceLemmas.{any_is_found}
pub use Rattle.sqlite_keyed.specs.Keyed.{IsKeyedBy}
pub use Rattle.sqlite_keyed.specs.Lists.{sort_by}
pub use Rattle.sqlite_schema.specs.declared.schema.Schema.{Schema}
pub use Rattle.sqlite_sql.specs.Program.{overlay}
pub use Rattle.sqlite_sql.specs.Query.{IsAnswer, Query}
pub use Rattle.sqlite_trees.proofs.ListLemmas.{filter_same}
pub use Rattle.sqlite_value.specs.Order.{Row, bytes, column}
pub use Rattle.sqlite_value.specs.declared.value.Value.TheVariants.{Int, Null, Text}
pub use Rattle.std.proofs.Common.{Bool, Err, IfSome, IsErr, IsOk, IsTrue, Less, List, None, Ok, OnOk, Option, Result, SFits, Some, [], add-one, ap, append-nil, append_assoc, ap₂, arith, cond, false, filter, find, fold, get_or, inl, inr, int_eq, int_lt, is_some, length, length-append, ltb, map, nat_abs, nat_cmp, not, of_z, option_copied, option_map, pos, refl, rules, subst, suc, sym, take, to_z, true, true≢false, w64, zero, ℕ, ℤ, ◌++◌, ◌+◌, ◌<ℤ◌, ◌<◌, ◌==◌, ◌||◌, ◌∙◌, ◌∷◌, ◌≡◌, ◌≤◌, ◌⊎◌}
pub use Rattle.std.proofs.lemmas.Bool.{and_parts, cases_Bool}
pub use Rattle.std.proofs.lemmas.Bool.Decides.{nat_tests}
pub use Rattle.std.proofs.lemmas.Int.{ints}
pub use Rattle.std.proofs.lemmas.List.{length-map, map-append, take_all}
pub use Rattle.std.proofs.lemmas.Result.{IfOk-weaker, on_ok_weaker}
pub use Rattle.std.proofs.lemmas.Simd.{map-map}
pub use Rattle.std.specs.List.{AllByRecursion, slice_get}
pub use Rattle.trust_base.specs.declared.refusal.StoreFault.{StoreFault}
pub use Rattle.trust_base.specs.declared.refusal.StoreFault.TheVariants.{Store}
pub use Rattle.trust_store.proofs.KeptMatters.{firm_rows, joined-ranged}
pub use Rattle.firm_rows.proofs.Handed.{all_more, begun, ended, one_more, some_more}
pub use Rattle.trust_store.proofs.Sinks.{kept-numbered}
pub use Rattle.firm_rows.specs.Handing.{AreHanded, FoldsFront, HandedOver}
pub use Rattle.trust_store.specs.Kept.{IsKeptWhole, firm_of, joined, kept_pairs, rows_in, rows_kept}
pub use Rattle.trust_store.specs.Named.{IsPartFor}
pub use Rattle.sql_reads.specs.Fed.{AreCounted, IsFed}
pub use Rattle.sql_reads.specs.Parts.{PartsAreWhole, drawn_by, figures_found, numbered_at, part_at, part_of, totals_of, with_totals_at, with_totals_from, without_matters}
pub use Rattle.sql_reads.specs.Shown.{AreNumbersOf, act_at, balance_at, dismissal_at, entry_rows, exception_at, firm_line_at, kept_at, movement_at, next_at, numbered_from, rows_at, seat_at, seat_rows}
pub use Rattle.sql_reads.specs.declared.matter.HeadWithTotals.{HeadWithTotals}
