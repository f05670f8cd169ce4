-- The names that the proofs of this crate cite, passed on from one place. Declares nothing.
pub use Rattle.firm_rows.proofs.Kept.{empty-sound, unopened-sound}
pub use Rattle.firm_rows.specs.Firm.{acted, acts_without, after_change, after_dismissal, after_edit, after_match, is_of_matter, joined_act, joined_acts, joined_movement, kept_movements, moved_without, of, own_movement, with_dismissal, with_dismissals, with_line, with_balance_row, without_line}
pub use Rattle.firm_rows.specs.FirmChange.{Dismissed, FirmChange, FitsFirm, OfBalance, OfFirm, OfMatter, Repeated, Unmatched, after, matched_by}
pub use Rattle.firm_rows.specs.FirmLines.{as_firm_line, balance_row, is_balance_on, kept_balance, place_of, with_balance}
pub use Rattle.firm_rows.specs.FirmSound.{StaysSound}
pub use Rattle.firm_rows.specs.declared.ledger.BalanceKind.{BalanceKind}
pub use Rattle.firm_rows.specs.declared.dismissal.Dismissal.{Dismissal}
pub use Rattle.firm_rows.specs.declared.matter_act.MatterAct.{MatterAct}
pub use Rattle.firm_rows.specs.declared.movement.Movement.{Movement}
pub use Rattle.matter_parts.specs.Applied.{IsWritten, entry_put, kept_as, left_written, other_written}
pub use Rattle.matter_parts.specs.Changes.{IsChange, IsPlace, MatterChange, changed, changed_by, edited, head_after, movement_of, seats_after}
pub use Rattle.matter_parts.specs.Parts.{AreKept, AreNumbered, IsWhole, Part, entries_kept, kept_in, no_figures}
pub use Rattle.matter_parts.specs.declared.change.Left.{Left}
pub use Rattle.matter_parts.specs.declared.change.TotalsAfter.{TotalsAfter}
pub use Rattle.matter_parts.specs.declared.edit.Edit.{Edit}
pub use Rattle.matter_parts.specs.declared.edit.Numbered.{Numbered}
pub use Rattle.matter_parts.specs.declared.figures.Figures.{Figures}
pub use Rattle.matter_parts.specs.declared.kept.Kept.{Kept}
pub use Rattle.matter_rows.specs.Rows.{Rows, closed_on, entry_at, role_in, seats_with, seats_without, seen_on, unopened}
pub use Rattle.matter_rows.specs.Sound.{IsBare, IsHeaded, Sound}
pub use Rattle.matter_rows.specs.declared.act.Act.{Act}
pub use Rattle.matter_rows.specs.declared.act.Caller.{Caller}
pub use Rattle.matter_rows.specs.declared.act.Deed.{Deed}
pub use Rattle.matter_rows.specs.declared.claim.Against.{Against}
pub use Rattle.matter_rows.specs.declared.claim.Claim.{Claim}
pub use Rattle.matter_rows.specs.declared.claim.ClaimState.{ClaimState}
pub use Rattle.matter_rows.specs.declared.deposit.Deposit.{Deposit}
pub use Rattle.matter_rows.specs.declared.deposit.DepositState.{DepositState}
pub use Rattle.matter_rows.specs.declared.entry.Entry.{Entry}
pub use Rattle.matter_rows.specs.declared.head.Head.{Head}
pub use Rattle.matter_rows.specs.declared.head.Holder.TheVariants.{Client, Purged}
pub use Rattle.matter_rows.specs.declared.movement.EntryMovement.{EntryMovement}
pub use Rattle.matter_rows.specs.declared.payment.Payment.{Payment}
pub use Rattle.matter_rows.specs.declared.payment.PaymentState.{PaymentState}
pub use Rattle.matter_rows.specs.declared.seat.Seat.{Seat}
pub use Rattle.sql_tables.specs.Lists.{Lists}
pub use Rattle.sql_tables.specs.Rows.{Balance, Exception, acts_among, add_balance, add_seat, balance_cmp, change_head, dismissals_among, entries_of, entry_cmp, exception_cmp, is_act_of, is_entry, is_entry_at, is_entry_of, is_exception, is_head, is_movement_of, is_seat, is_seat_of, note_exception, put_entry, put_head, put_left, same_text, seat_cmp, seats_of, text_cmp, with_left}
pub use Rattle.sqlite_keyed.proofs.KeyedLemmas.{IsKeyedBy-delete_where, IsKeyedBy-insert_by, Less-from_lt, all-insert_by, has_key-delete_where, has_key-insert_by, int_eq_apart, none_past, same_int}
pub use Rattle.sqlite_keyed.proofs.ListLemmas.{IsPermutation-filter, all-append, all-filter, all-slice_get, all_both, all_map, all_of, all_unmap, all_weaker, ascending-append, ascending-filter, ascending_weaker, filter-filter, filter-map, filter_all, filter_none, map-map, map_same, none_from_any, slice_get-filter}
pub use Rattle.sqlite_keyed.proofs.RuleLemmas.{at_most_one, first_of_both}
pub use Rattle.sqlite_keyed.proofs.SliceLemmas.{any_is_found, is_some-map}
pub use Rattle.sqlite_keyed.proofs.SortLemmas.{HasNoTies, IsPermutation-sort_by, sort_by-map, sorted_is-sort_by, sorted_unique}
pub use Rattle.sqlite_keyed.specs.Keyed.{IsKeyedBy, has_key, insert_by, next_key}
pub use Rattle.sqlite_keyed.specs.Lists.{delete_where, insert_sorted, sort_by, update_where}
pub use Rattle.sqlite_trees.proofs.ListLemmas.{all-permutation, ascending-get_or, filter_same}
pub use Rattle.sqlite_trees.specs.Tree.{IsAscending}
pub use Rattle.std.proofs.Common.{Bool, Contains, Equal, Greater, IfErr, IsPermutation, IsSorted, Less, List, None, Option, Ordering, Result, Some, [], ap, append-nil, ap₂, arith, cond, eqb, false, filter, find, get_or, inl, inr, int_cmp, int_eq, is_eq, is_gt, is_lt, is_some, length, map, nat_abs, not, option_map, pos, refl, rules, subst, sym, true, true≢false, ℕ, ℤ, ◌&&◌, ◌++◌, ◌+◌, ◌<ℤ◌, ◌<◌, ◌||◌, ◌∙◌, ◌∷◌, ◌≡◌, ◌≤ℤ◌, ◌≤◌, ◌⊎◌}
pub use Rattle.std.proofs.lemmas.Bool.{cases_Bool, cond_both, false≢true}
pub use Rattle.std.proofs.lemmas.Bool.Decides.{nat_tests}
pub use Rattle.std.proofs.lemmas.Cmp.{int_cmp_total, nat_list_cmp_total, on_total, then_total}
pub use Rattle.std.proofs.lemmas.Int.{ints}
pub use Rattle.std.proofs.lemmas.List.{map-append}
pub use Rattle.std.proofs.lemmas.List.Elements.{filter-append, filter_passes, recursion_from_All}
pub use Rattle.std.proofs.lemmas.List.Sorted.{IsPermutation-append_comm, IsPermutation-append_left, IsPermutation-cons, IsPermutation-filter_both, IsPermutation-middle, IsPermutation-push_more, IsPermutation-refl, IsPermutation-sym, IsPermutation-trans, length_permutation, list_any-IsPermutation}
pub use Rattle.std.specs.Cmp.{IsTotalOrder, tied_then}
pub use Rattle.std.specs.List.{AllByRecursion, list_any, slice_get}
pub use Rattle.std.specs.Ordering.{nat_cmp, ordering_reverse, ordering_then}
pub use Rattle.std.specs.Prelude.{IfSome, IsSome, nat_lt, ◌==◌}
pub use Rattle.trust_base.specs.declared.line.Line.{Line}
pub use Rattle.trust_store.specs.Kept.{AreKeptWhole, IsKeptAs, IsKeptWhole, matters_with, rows_in, rows_kept}
pub use Rattle.trust_store.specs.declared.plain.KeptMatter.{KeptMatter}
pub use Rattle.sql_rows.specs.Acts.{IsCaller, act_columns, act_entry_column, caller_column, deed_column, number_column, text_column}
pub use Rattle.sql_rows.specs.Columns.{IsBankLine, balance_columns, entry_column, exception_columns, firm_line_columns, kind_column, matter_column, movement_columns, role_column, seat_columns}
pub use Rattle.sql_rows.specs.Dismissals.{IsDismissal, IsField, after_tab, before_tab, dismissal_columns, line_column, tab}
pub use Rattle.sql_rows.specs.Entries.{HasEntry, entry_columns, parts_of}
pub use Rattle.sql_rows.specs.Heads.{HasHead, client_column, closed_column, head_columns, purged_column, totals_columns}
pub use Rattle.sql_rows.specs.Meaning.{AreKeyed, AreMeant, AreSound, AreWritten, HasHeadAt, IsWrittenAct, IsWrittenBalance, IsWrittenDismissal, IsWrittenEntry, IsWrittenException, IsWrittenFirmLine, IsWrittenHead, IsWrittenMovement, IsWrittenSeat, act_from, balance_from, balance_kind_from, behind, caller_from, day_or_none, dismissal_from, entry_from, entry_or_none, exception_from, figures_from, firm_from, head_from, holder_from, kept_from, line_from, matter_from, matters_from, movement_from, part_from, role_from, seat_from}
pub use Rattle.sql_rows.specs.Scripts.{IsMeant, IsScriptMeant, IsTypedAct, IsTypedEdit, LineScriptsAreMeant, ScriptsAreMeant}
pub use Rattle.sql_rows.specs.Standing.{EmptyTablesStand, EntriesReadBack}
pub use Rattle.sql_rows.specs.Steps.{AreMade, Step, act_steps, edit_steps, entry_steps, head_at, head_steps, left_steps, line_steps, matter_steps, movement_steps, row_steps, totals_steps, trail_steps}
