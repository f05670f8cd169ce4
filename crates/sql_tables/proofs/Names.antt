-- The names that the proofs of this crate cite, passed on from one place. Declares nothing.
pub use Rattle.sql_schema.specs.Schema.{balance_place, balance_table, balance_tree, book_schema, entry_place, entry_table, entry_tree, exception_place, exception_table, exception_tree, firm_line_place, firm_line_table, firm_line_tree, journal_place, journal_table, journal_tree, matter_place, matter_table, matter_tree, seat_place, seat_table, seat_tree, sequence_table, sequence_tree}
pub use Rattle.sql_schema.specs.declared.layout.Layout.{Layout}
pub use Rattle.sqlite.proofs.Callers.{IsPlain, command_of, one_step, reads_as, runs_as, survives_begin}
pub use Rattle.sqlite.proofs.StateLemmas.{survives_then, survives_weaker}
pub use Rattle.sqlite.specs.Effect.{Answers, Database, IsDatabase, value_rows}
pub use Rattle.sqlite.specs.Held.{Held, state}
pub use Rattle.sqlite.specs.Listing.{if_select, is_select, reads_listing}
unfoldable pub use Rattle.sqlite.specs.Listing.{listing_schema, understood}
pub use Rattle.sqlite.specs.Rows.{Clears, Counts, CountsIn, Deletes, Edited, Gives, Inserts, InsertsOr, Judged, Puts, Task, Tries, TriesEach, Updates, Written, count_of, mended, nothing, rowids_for, sequence, stamped}
pub use Rattle.sqlite.specs.State.{Executes, ExecutesInside, HasCleanDisk, IsRolledBack, IsUnchanged, State, Survives, Writes, mode_of}
unfoldable pub use Rattle.sqlite.specs.State.{CommitsShowing, FailsToQuery, IsNotRun, Shown}
pub use Rattle.sqlite.specs.declared.error.Error.{Error}
pub use Rattle.sqlite_keyed.proofs.KeyedLemmas.{IsKeyedBy-delete_where, IsKeyedBy-insert_by, IsKeyedBy-update_where, Less-from_lt, above_all, same_int}
pub use Rattle.sqlite_keyed.proofs.ListLemmas.{all_of, all_weaker, ascending-map, ascending_weaker, map-map, map_same}
pub use Rattle.sqlite_keyed.specs.Keyed.{IsKeyedBy, insert_by, next_key}
pub use Rattle.sqlite_keyed.specs.Lists.{delete_where, sort_by, update_where, without_key}
pub use Rattle.sqlite_rules.proofs.ListLemmas.{all_from, all_has, contains_had, has_contained, has_filtered, has_kept, some_from, some_has}
pub use Rattle.sqlite_rules.specs.Action.{Work, deed_of, pairs, work_by, works}
pub use Rattle.sqlite_rules.specs.Calls.{ids_of}
pub use Rattle.sqlite_rules.specs.Cast.{cast, cast_all, cast_row}
pub use Rattle.sqlite_rules.specs.Edit.{Applies, Edit, are_fresh, at_least, edit_of, id_in, is_chosen, next_rowid, numbered, put_all, taken_by, with_rowid, without_all}
pub use Rattle.sqlite_rules.specs.Keys.{AreConflicts, conflicts}
pub use Rattle.sqlite_rules.specs.Lists.{Has}
pub use Rattle.sqlite_rules.specs.Steps.{IsJudged, is_present}
pub use Rattle.sqlite_rules.specs.declared.error.Rowids.TheVariants.{Above, Chosen, Given}
pub use Rattle.sqlite_schema.specs.Rules.{parent_key, passes_checks}
pub use Rattle.sqlite_schema.specs.declared.command.Command.{Command}
pub use Rattle.sqlite_schema.specs.declared.command.Command.TheVariants.{Delete, Insert, InsertOr, Select, Update}
pub use Rattle.sqlite_schema.specs.declared.command.Conflict.TheVariants.{Ignore, Replace}
pub use Rattle.sqlite_schema.specs.declared.command.Source.TheVariants.{Values}
pub use Rattle.sqlite_schema.specs.declared.program.Program.{Program}
pub use Rattle.sqlite_schema.specs.declared.schema.Keys.TheVariants.{Enforced}
pub use Rattle.sqlite_schema.specs.declared.schema.Schema.{Schema}
pub use Rattle.sqlite_schema.specs.declared.schema.Table.{Table}
pub use Rattle.sqlite_sql.specs.Program.{overlay}
pub use Rattle.sqlite_sql.specs.Query.{IsAnswer, Output, Query, output}
pub use Rattle.sqlite_sql.specs.Term.{Term, col, eval_all, holds}
pub use Rattle.sqlite_sql.specs.declared.ops.CompareOp.TheVariants.{Eq, Gt}
pub use Rattle.sqlite_trees.specs.Tree.{IsAscending, IsTable, Trees, put_row, rowid}
pub use Rattle.sqlite_typed.proofs.AnswerLemmas.{unfiltered, answer_by_keys, answer_sorted, at_end, last_table, matches_are, no_tie, no_tie_after}
pub use Rattle.sqlite_typed.proofs.TestLemmas.{at_ints, at_texts, last_key, last_term, then_key, then_term}
pub use Rattle.sqlite_value.proofs.OrderLemmas.{value_cmp-Int, value_cmp-Text, value_cmp_total}
pub use Rattle.sqlite_value.specs.Order.{Row}
unfoldable pub use Rattle.sqlite_value.specs.Order.{value_cmp}
pub use Rattle.sqlite_value.specs.declared.value.Value.TheVariants.{Int, Null, Text}
pub use Rattle.std.proofs.Common.{Bool, Err, IfErr, IfOk, IsOk, IsTrue, Less, List, MatchBool, None, Ok, OnErr, OnOk, Option, Result, Some, [], ap, ap₂, arith, cond, drop, false, filter, fold, get_or, if◌then◌else◌, inl, inr, int_eq, is_lt, length, map, map-id, not, pos, refl, rules, slice_get, subst, subst₂, sym, take, true, true≢false, unwrap_or, ℕ, ℤ, ◌&&◌, ◌++◌, ◌+ℤ◌, ◌+◌, ◌/◌, ◌<ℤ◌, ◌<◌, ◌∙◌, ◌∷◌, ◌≡◌, ◌≢◌, ◌⊎◌}
pub use Rattle.std.proofs.lemmas.Int.{ints}
pub use Rattle.std.proofs.lemmas.List.Sorted.{Contains-permutation, IsPermutation-map, IsPermutation-sym, list_any-IsPermutation}
pub use Rattle.std.specs.List.{AllByRecursion, filter_map, flat_map, list_all, list_any}
pub use Rattle.std.specs.List.Sorted.{IsPermutation}
pub use Rattle.std.specs.Ordering.{int_cmp, on, ordering_reverse}
pub use Rattle.sql_tables.specs.Performing.{HasRun, IsPerformed}
pub use Rattle.sql_tables.specs.Picking.{changing, picked}
pub use Rattle.sql_tables.specs.Reading.{IsKept, IsSelect, LeavesAll, is_selection, selects}
pub use Rattle.sql_tables.specs.Rows.{Balance, Entry, Exception, FirmLine, Head, Movement, Seat, balance_cmp, balance_row, balance_shown, balance_values, balances_in, entries_in, entries_of, entry_cmp, entry_row, entry_values, exception_cmp, exception_row, exception_values, exceptions_in, firm_line_row, firm_line_values, firm_lines_in, head_row, head_shown, heads_in, is_balance_at, is_entry, is_entry_at, is_entry_of, is_exception, is_head, is_movement_of, is_past, is_seat, is_seat_of, movement_row, movement_values, movements_in, next_shown, no_shown, numbered_shown, seat_cmp, seat_row, seat_shown, seat_values, seats_in, seats_of, text_cmp, with_closing, with_left, with_purge, with_totals}
pub use Rattle.sql_tables.specs.Script.{Call, Does, RanInside, call_of, calls_of}
pub use Rattle.sql_tables.specs.Standing.{Changed, Counted, Holds, Stands}
pub use Rattle.sql_tables.specs.Texts.{balance_read_query, balance_scan_query, entries_read_query, entry_read_query, exception_scan_query, firm_scan_query, head_read_query, head_scan_query, journal_scan_query, next_head_query, seats_read_query}
pub use Rattle.std.proofs.lemmas.Bool.Decides.{nat_tests}
