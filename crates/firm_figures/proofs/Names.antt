-- The names that the proofs of this crate cite, passed on from one place. Declares nothing.
pub use Rattle.firm_rows.proofs.Joined.{own-put, passing}
pub use Rattle.firm_rows.proofs.Ordered.{all-append, all-map}
pub use Rattle.firm_rows.proofs.Sums.{at, sum-agree, sum-filter, sum-flat}
pub use Rattle.firm_rows.specs.Firm.{EntryRow, Firm, HeadRow, Row, SeatRow, acted, acts_without, after_change, after_edit, purged_by, with_acts, entry_pairs, head_pairs, of, pairs, put, seat_pairs}
pub use Rattle.firm_rows.specs.FirmSound.{IsInOrder}
pub use Rattle.firm_rows.specs.Sums.{sum_of}
pub use Rattle.firm_rows.specs.declared.ledger.BalanceRow.{BalanceRow}
pub use Rattle.firm_rows.specs.declared.movement.Movement.{Movement}
pub use Rattle.matter_rows.specs.Balances.{held, pending}
pub use Rattle.matter_rows.specs.Events.{Event}
unfoldable pub use Rattle.matter_rows.specs.Events.{events_of}
pub use Rattle.matter_rows.specs.Laws.{Covered}
pub use Rattle.matter_rows.specs.Rows.{Rows, purged_head, closed_on, entry_amount}
pub use Rattle.matter_rows.specs.Shares.{held_deposit}
unfoldable pub use Rattle.matter_rows.specs.Shares.{held_share, pending_share}
pub use Rattle.matter_rows.specs.Sound.{IsAtRest, IsAtRestIfClosed, IsBy, IsHeaded, IsRanged, Sound}
unfoldable pub use Rattle.matter_rows.specs.Sound.{days_of}
pub use Rattle.matter_rows.specs.declared.entry.Entry.{Entry}
pub use Rattle.matter_rows.specs.declared.head.Head.{Head}
pub use Rattle.matter_rows.specs.declared.seat.Seat.{Seat}
pub use Rattle.std.proofs.Common.{Bool, List, None, Option, Some, [], ap, append_assoc, arith, cond, false, get_or, inl, inr, length, map, not, refl, rules, set, subst, suc, sym, take, true, w64, zero, ℕ, ◌*◌, ◌++◌, ◌+◌, ◌-◌, ◌<◌, ◌∙◌, ◌∷◌, ◌≡◌, ◌≤◌}
pub use Rattle.std.proofs.lemmas.Bool.Decides.{nat_tests}
pub use Rattle.std.proofs.lemmas.Grind.{common_steps}
pub use Rattle.std.proofs.lemmas.Int.{fits_signed_from_abs, int_wrap-add_left, ints, to_z-of_z, wraps}
pub use Rattle.std.proofs.lemmas.List.{take_all}
pub use Rattle.std.proofs.lemmas.List.Elements.{filter_agree, filter_passes, pair_read, recursion_from_All}
pub use Rattle.std.proofs.lemmas.List.Sorted.{IsPartitionPoint-from_clause, IsPartitionedBy-ltb, answers_always, ranks_by, sorted_far}
pub use Rattle.std.specs.Cmp.{IsStrictWeakOrder, IsTotalOrder}
pub use Rattle.std.specs.Int.{w128}
unfoldable pub use Rattle.std.specs.Int.{int_wrap}
pub use Rattle.std.specs.Int.RustNames.{FitsSigned}
pub use Rattle.std.specs.List.{AllByRecursion, filter, flat_map, list_any}
pub use Rattle.std.specs.List.Sorted.{IsSortedBy, IsStableBy, ties}
pub use Rattle.std.specs.Option.{option_or}
pub use Rattle.std.specs.Ordering.{is_eq, is_lt, nat_cmp, ordering_reverse, ordering_then}
pub use Rattle.std.specs.Prelude.{IsSome, fold, if◌then◌else◌, nat_le, nat_lt, negsuc, pos, ℤ, ◌&&◌, ◌+ℤ◌, ◌-ℤ◌, ◌==◌, ◌||◌, ◌≤ℤ◌, ◌⊎◌, is_some}
pub use Rattle.std.specs.declared.cmp.Ordering.TheVariants.{Equal, Less}
pub use Rattle.trust_base.specs.Limits.{IsAmount, IsBankAmount}
pub use Rattle.trust_matter.specs.Changes.{IsPlace, MatterChange, changed_by}
pub use Rattle.trust_matter.specs.edit.Edit.{Edit}
pub use Rattle.firm_figures.specs.Doubles.{doubles_in, has_same_instrument, in_order, is_before_issued, is_double_in, issued_cmp, put_in_order}
pub use Rattle.firm_figures.specs.Figures.{back_on, banked_on, booked_on, early, entries_in, is_back_early, is_banked_early, is_closing, is_early, is_event_by, is_in_transit, is_matched_by, is_outstanding, lines_of, matched, outstanding, returned_on, transit, undone_on, day_by, day_where}
pub use Rattle.firm_figures.specs.Listing.{entry_line}
pub use Rattle.firm_figures.specs.Lists.{add_last}
pub use Rattle.firm_figures.specs.Openings.{AreClosings, is_closing_before, latest_before, openings_after}
pub use Rattle.firm_figures.specs.Purged.{IsClosedBy, IsOpenedAfter, IsPurge, is_day_after, is_purged_after, is_row_purged_at}
unfoldable pub use Rattle.firm_figures.specs.Purged.{is_period_purged, is_purged_at}
pub use Rattle.firm_figures.specs.Reconciling.{early_share, ledger_share_by, matched_share, outstanding_share, transit_share}
unfoldable pub use Rattle.firm_figures.specs.Reconciling.{added, less}
pub use Rattle.firm_figures.specs.declared.day_lists.Issued.{Issued}
pub use Rattle.firm_figures.specs.declared.trial_sink.TrialLine.{TrialLine}
pub use Rattle.matter_rows.specs.Clearings.{cleared_amount}
pub use Rattle.std.proofs.lemmas.Bool.{cases_Bool}
