-- The names that the proofs of this crate cite, passed on from one place. Declares nothing.
pub use Rattle.firm_rows.proofs.Agree.{agree, all-entries, of_row, rows-entries}
pub use Rattle.firm_rows.proofs.Clearing.{IsClear, sound-cleared}
pub use Rattle.firm_rows.proofs.Joined.{own-put, passing}
pub use Rattle.firm_rows.proofs.Ordered.{all-map}
pub use Rattle.firm_rows.proofs.Solvent.{row-share, shares-ledger, sound-solvent}
pub use Rattle.firm_rows.proofs.Sums.{at, sum-agree, sum-append, sum-filter, sum-same}
pub use Rattle.firm_rows.specs.Countable.{AreCountable, IsCountable, IsFirmLineInRange, IsMovementInRange, IsRowInRange}
pub use Rattle.firm_rows.specs.Firm.{EntryRow, Firm, HeadRow, Row, SeatRow, acted, acts_without, after_change, after_edit, purged_by, with_acts, entry_pairs, head_pairs, of, pairs, put, seat_pairs}
pub use Rattle.firm_rows.specs.FirmLines.{balance_cmp, balance_of, place_of}
pub use Rattle.firm_rows.specs.FirmSound.{FirmSound, IsInOrder}
pub use Rattle.firm_rows.specs.Journal.{journal_sum, ledger_share, ledger_sum, row_share}
pub use Rattle.firm_rows.specs.Sums.{sum_of}
pub use Rattle.firm_rows.specs.declared.ledger.FirmLine.{FirmLine}
pub use Rattle.firm_rows.specs.declared.ledger.BalanceRow.{BalanceRow}
pub use Rattle.firm_rows.specs.declared.movement.Movement.{Movement}
pub use Rattle.matter_rows.specs.Balances.{held, ledger, pending, total}
unfoldable pub use Rattle.matter_rows.specs.Events.{events_of}
pub use Rattle.matter_rows.specs.Laws.{Covered}
pub use Rattle.matter_rows.specs.Rows.{Rows, purged_head, entry_amount}
pub use Rattle.matter_rows.specs.Shares.{cleared_deposit, held_deposit, paid}
unfoldable pub use Rattle.matter_rows.specs.Shares.{held_share, pending_share, total_share}
pub use Rattle.matter_rows.specs.Sound.{IsAtRest, IsAtRestIfClosed, IsBy, IsHeaded, IsRising, Sound}
unfoldable pub use Rattle.matter_rows.specs.Sound.{days_of}
pub use Rattle.matter_rows.specs.declared.deposit.DepositState.{DepositState}
pub use Rattle.matter_rows.specs.declared.entry.Entry.{Entry}
pub use Rattle.matter_rows.specs.declared.head.Head.{Head}
pub use Rattle.matter_rows.specs.declared.payment.PaymentState.{PaymentState}
pub use Rattle.matter_rows.specs.declared.seat.Seat.{Seat}
pub use Rattle.std.proofs.Common.{Bool, List, None, Option, Some, [], ap, append-nil, append_assoc, arith, cond, false, length, map, not, refl, subst, suc, sym, take, true, zero, ℕ, ◌*◌, ◌++◌, ◌+◌, ◌<◌, ◌∙◌, ◌∷◌, ◌≡◌, ◌≤◌}
pub use Rattle.std.proofs.lemmas.Bool.Decides.{nat_tests}
pub use Rattle.std.proofs.lemmas.Grind.{flat_map-append}
pub use Rattle.std.proofs.lemmas.Int.{int_wrap-add_left, int_wrap-add_right, int_wrap-sub_right, int_wrap_fits, ints}
pub use Rattle.std.proofs.lemmas.List.{map-append}
pub use Rattle.std.proofs.lemmas.List.Elements.{All-from_recursion, filter_passes, recursion_from_All}
pub use Rattle.std.specs.Int.{w128}
unfoldable pub use Rattle.std.specs.Int.{int_wrap}
pub use Rattle.std.specs.Int.RustNames.{FitsSigned}
pub use Rattle.std.specs.List.{AllByRecursion, filter, flat_map, list_any}
pub use Rattle.std.specs.List.Sorted.{IsNonDecreasingBy}
unfoldable pub use Rattle.std.specs.List.Sorted.{IsStrictlySortedBy}
pub use Rattle.std.specs.Option.{option_map}
pub use Rattle.std.specs.Ordering.{nat_cmp, ordering_then}
pub use Rattle.std.specs.Prelude.{find, fold, if◌then◌else◌, is_none, nat_le, nat_lt, pos, ℤ, ◌&&◌, ◌+ℤ◌, ◌-ℤ◌, ◌==◌, ◌||◌, ◌≤ℤ◌}
pub use Rattle.std.specs.declared.cmp.Ordering.TheVariants.{Less}
pub use Rattle.trust_base.specs.Limits.{IsAmount, IsBankAmount}
pub use Rattle.trust_base.specs.declared.line.Line.{Line}
pub use Rattle.trust_matter.specs.Changes.{changed_by}
pub use Rattle.trust_matter.specs.edit.Edit.{Edit}
pub use Rattle.firm_figures.specs.Doubles.{IssuedKept, doubles_in, issued_in, no_issued, with_row_issued}
pub use Rattle.firm_figures.specs.Figures.{back_on, banked_on, booked_on, closing_on, early, entries_in, exceptions, figures, figures_on, is_back_early, is_banked_early, is_by, is_closing, is_closing_of, is_counted, is_dated_by, is_event_by, is_in_transit, is_moved_by, is_outstanding, journal, ledgers, matched, outstanding, own_by, returned_on, transit, undone_on}
pub use Rattle.firm_figures.specs.Listing.{Listed, early_lines, early_list, line_where, none_listed, out_list, transit_list, with_exception_listed, with_row_listed}
pub use Rattle.firm_figures.specs.Lists.{TrialKept, add_last, is_open, journal_from, last_sum, no_trial, open_matters, trial_lines, trial_total, with_moved, with_trial_own, with_trial_row}
pub use Rattle.firm_figures.specs.Openings.{AreClosings, BalancesKept, after_closing, is_closing_before, is_opening_by, latest_before, no_balances, opening_line, openings_after, openings_kept, with_balance_kept}
pub use Rattle.firm_figures.specs.Purged.{AreListsLeft, IsClosedBy, IsOpenedAfter, PeriodKept, is_purged_after, is_row_purged_at, whole_period, with_row_purged}
unfoldable pub use Rattle.firm_figures.specs.Purged.{is_period_purged, is_purged_at}
pub use Rattle.firm_figures.specs.Reconciling.{Tallies, all_taken, early_share, figures_kept, finished, first_of, ledger_share_by, matched_share, no_tallies, outstanding_share, transit_share, with_balance_told, with_exception, with_movement, with_own, with_row}
unfoldable pub use Rattle.firm_figures.specs.Reconciling.{added, less}
pub use Rattle.firm_figures.specs.declared.day_lists.EntryLine.{EntryLine}
pub use Rattle.firm_figures.specs.declared.trial_sink.TrialLine.{TrialLine}
pub use Rattle.matter_rows.specs.Clearings.{cleared_amount}
pub use Rattle.figure_laws.specs.Agree.{AlwaysAgree, ListedAreOpen, ListsAlwaysAgree}
pub use Rattle.figure_laws.specs.Kept.{AreInRange, FiguresFit, FiguresKept, FiguresTold, IssuedIsKept, JournalIsKept, ListsKept, OpeningsKept, TotalIsKept, TrialIsKept}
pub use Rattle.figure_laws.specs.Purging.{PurgeChangesNoFigure, PurgeChangesNoFigureLeft, PurgeChangesNoList, PurgeChangesNoListLeft}
