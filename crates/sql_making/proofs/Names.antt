-- The names that the proofs of this crate cite, passed on from one place. Declares nothing.
pub use Rattle.sql_schema.specs.Making.{after_act, schema_text, version_part}
pub use Rattle.sql_schema.specs.Old.{old_schema, version_then}
pub use Rattle.sql_schema.specs.Schema.{book_schema, book_table, entry_place, entry_table, matter_place, matter_table, old_entry_table, old_matter_table, old_seat_table, seat_place, seat_table, sequence_table, version_now}
pub use Rattle.sql_schema.specs.declared.layout.Layout.{Layout}
pub use Rattle.sql_schema.specs.declared.layout.Layout.TheVariants.{Made, Moved}
pub use Rattle.sql_tables.proofs.Calls.{fails_kept, kept_either, kept_unchanged, no_lets, shown_unchanged, when_shown}
pub use Rattle.sql_tables.proofs.Casts.{cast_int, cast_null, goes_last}
pub use Rattle.sql_tables.proofs.Kept.{all_kept, row_put, rows_gone}
pub use Rattle.sql_tables.proofs.KindLemmas.{idle}
pub use Rattle.sql_tables.proofs.Together.{ok_then, when_err, when_ok}
pub use Rattle.sql_tables.proofs.Writes.{deletes, inserts, removed, same_value, updated, updates, went}
pub use Rattle.sql_tables.specs.Reading.{IsSelect}
pub use Rattle.sql_tables.specs.Rows.{Act, act_in, act_row, Balance, Entry, Exception, FirmLine, Head, Movement, Seat, balance_in, balance_row, entry_in, entry_row, entry_values, exception_in, exception_row, firm_line_in, firm_line_row, head_in, head_row, head_shown, movement_in, movement_row, seat_in, seat_row, seat_values}
pub use Rattle.sql_tables.specs.Standing.{ActsHold, BalancesHold, EntriesHold, ExceptionsHold, FirmLinesHold, Holds, MovementsHold, SeatsHold, Stands}
pub use Rattle.sqlite.proofs.Callers.{IsPlain, command_of, one_permutation, one_step, reads_as, statement_of}
pub use Rattle.sqlite.specs.Batch.{RunInTurn, Step}
unfoldable pub use Rattle.sqlite.specs.Batch.{ExecutesAllInside}
pub use Rattle.sqlite.specs.Clock.{timed}
pub use Rattle.sqlite.specs.Does.{Does, MakesSequence, MakesTable, Tally, lacks_sequence, sequence_text}
pub use Rattle.sqlite.specs.Effect.{Database, IsDatabase, RefusesToRead}
pub use Rattle.sqlite.specs.Held.{Held, state}
pub use Rattle.sqlite.specs.Listing.{IsSourceOf, reads_listing}
unfoldable pub use Rattle.sqlite.specs.Listing.{understood}
pub use Rattle.sqlite.specs.Rows.{Counts, Edited, Task, Written, count_of, rowids_for, stamped}
pub use Rattle.sqlite.specs.State.{Fails, FailsToShow, IsNoStatement, KeepsCommit, Runs, State, mode_of, text_of}
unfoldable pub use Rattle.sqlite.specs.State.{ExecutesIn, FailsToQuery, IsNotRun, Shown}
pub use Rattle.sqlite.specs.declared.error.Error.{Error}
pub use Rattle.sqlite_catalog.specs.Change.{KeepsRows, created, next_tree}
pub use Rattle.sqlite_keyed.proofs.ListLemmas.{map-map, map_same}
pub use Rattle.sqlite_keyed.specs.Keyed.{IsKeyedBy}
unfoldable pub use Rattle.sqlite_resolve.specs.Compile.{table_defined_by}
pub use Rattle.sqlite_rules.specs.Calls.{ids_of}
pub use Rattle.sqlite_rules.specs.Cast.{cast_row}
pub use Rattle.sqlite_rules.specs.Edit.{Edit, edit_of, edited, numbered, put_all, taken_by, with_rowid, without_all}
pub use Rattle.sqlite_rules.specs.declared.error.Rowids.TheVariants.{Chosen, Given}
pub use Rattle.sqlite_schema.specs.declared.command.Command.{Command}
pub use Rattle.sqlite_schema.specs.declared.command.Command.TheVariants.{CreateTable, Delete, Insert, Select}
pub use Rattle.sqlite_schema.specs.declared.program.Program.{Program}
pub use Rattle.sqlite_schema.specs.declared.schema.Keys.TheVariants.{Enforced}
pub use Rattle.sqlite_schema.specs.declared.schema.Schema.{Schema}
pub use Rattle.sqlite_schema.specs.declared.schema.Table.{Table}
pub use Rattle.sqlite_sql.specs.Program.{overlay}
pub use Rattle.sqlite_sql.specs.Query.{IsAnswer, Output, Query, output}
pub use Rattle.sqlite_sql.specs.Term.{col, lit}
unfoldable pub use Rattle.sqlite_tied.specs.Compute.{everything}
pub use Rattle.sqlite_trees.specs.Tree.{Trees, has_rowid, put_row, rowid, without_rowid}
pub use Rattle.sqlite_trees.specs.declared.store.Store.{Ghosts}
pub use Rattle.sqlite_typed.proofs.AnswerLemmas.{answer_by_keys, at_end, last_table, matches_are}
pub use Rattle.sqlite_value.proofs.OrderLemmas.{value_cmp-Int}
pub use Rattle.sqlite_value.specs.Order.{Row, column}
pub use Rattle.sqlite_value.specs.declared.value.Value.{Value}
pub use Rattle.sqlite_value.specs.declared.value.Value.TheVariants.{Int, Null}
pub use Rattle.std.proofs.Common.{Bool, Err, IfErr, IfOk, IsPermutation, IsSome, IsTrue, List, None, Ok, OnOk, Option, Result, Some, [], ap, append-nil, ap₂, arith, codes, drop, false, filter, get_or, inl, inr, int_eq, length, map, map-id, not, of_z, pos, refl, rules, slice_get, subst, subst₂, suc, sym, to_z, true, w64, zero, ℕ, ℤ, ◌++◌, ◌<ℤ◌, ◌<◌, ◌∙◌, ◌∷◌, ◌≡◌, ◌≢◌, ◌≤◌, ◌⊎◌}
pub use Rattle.std.proofs.lemmas.List.Concat.{flat_map_single}
pub use Rattle.std.proofs.lemmas.List.Sorted.{IsPermutation-map, IsPermutation-sym}
pub use Rattle.std.specs.List.{AllByRecursion}
pub use Rattle.sql_making.specs.Books.{HasFailed, IsBlank, IsBook, IsNewBook, no_schema, version_text, versions_in}
pub use Rattle.sql_making.specs.Text.{after_acts_made, after_heads_emptied, entries_copied_part, entries_emptied_part, heads_copied_part, heads_emptied_part, move_text, seats_copied_part, seats_emptied_part, version_set_part}
pub use Rattle.sql_making.specs.Then.{HasVersions, IsMoved, IsOldBook, numbered_versions, old_head_in, old_head_row}
pub use Rattle.std.proofs.lemmas.Bool.Decides.{nat_tests}
pub use Rattle.std.proofs.lemmas.Int.{ints}
