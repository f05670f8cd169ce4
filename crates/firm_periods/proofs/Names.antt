-- The names that the proofs of this crate cite, passed on from one place. Declares nothing.
pub use Rattle.firm_rows.proofs.Agree.{agree, all-entries, of_row}
pub use Rattle.firm_rows.proofs.Joined.{own-put, passing}
pub use Rattle.firm_rows.proofs.Ordered.{all-map}
pub use Rattle.firm_rows.proofs.Sums.{sum-append, sum-filter, sum-same}
pub use Rattle.firm_rows.specs.Countable.{AreCountable, IsFirmLineInRange, IsRowInRange}
pub use Rattle.firm_rows.specs.Firm.{EntryRow, Firm, HeadRow, Row, SeatRow, acted, acts_without, after_change, after_edit, purged_by, with_acts, entry_pairs, head_pairs, of, pairs, put, seat_pairs}
pub use Rattle.firm_rows.specs.FirmSound.{FirmSound}
pub use Rattle.firm_rows.specs.Sums.{sum_of}
pub use Rattle.firm_rows.specs.declared.ledger.FirmLine.{FirmLine}
pub use Rattle.firm_rows.specs.declared.movement.Movement.{Movement}
pub use Rattle.matter_rows.specs.Events.{Event}
unfoldable pub use Rattle.matter_rows.specs.Events.{events_of}
pub use Rattle.matter_rows.specs.Laws.{Covered}
pub use Rattle.matter_rows.specs.Rows.{Rows, entry_amount}
pub use Rattle.matter_rows.specs.Sound.{IsAtRest, IsAtRestIfClosed, IsBy, IsHeaded, Sound}
unfoldable pub use Rattle.matter_rows.specs.Sound.{days_of}
pub use Rattle.matter_rows.specs.declared.entry.Entry.{Entry}
pub use Rattle.matter_rows.specs.declared.head.Head.{Head}
pub use Rattle.matter_rows.specs.declared.seat.Seat.{Seat}
pub use Rattle.std.proofs.Common.{Bool, List, None, Option, Some, [], ap, append-nil, append_assoc, arith, cond, false, length, map, not, refl, rules, subst, suc, sym, take, true, zero, ℕ, ◌*◌, ◌++◌, ◌+◌, ◌-◌, ◌<◌, ◌∙◌, ◌∷◌, ◌≡◌, ◌≤◌}
pub use Rattle.std.proofs.lemmas.Bool.Decides.{nat_tests}
pub use Rattle.std.proofs.lemmas.Grind.{flat_map-append}
pub use Rattle.std.proofs.lemmas.Int.{int_wrap_fits, ints}
pub use Rattle.std.proofs.lemmas.List.{map-append}
pub use Rattle.std.proofs.lemmas.List.Elements.{filter_passes, recursion_from_All}
pub use Rattle.std.proofs.lemmas.List.Sorted.{answers_always, ranks_by}
pub use Rattle.std.specs.Cmp.{IsStrictWeakOrder}
pub use Rattle.std.specs.Int.{w128}
unfoldable pub use Rattle.std.specs.Int.{int_wrap}
pub use Rattle.std.specs.List.{AllByRecursion, filter, flat_map, list_any}
pub use Rattle.std.specs.List.Sorted.{IsSortedBy}
pub use Rattle.std.specs.Prelude.{fold, nat_le, nat_lt, pos, ℤ, ◌&&◌, ◌+ℤ◌, ◌-ℤ◌, ◌==◌, ◌||◌, ◌≤ℤ◌, is_some}
pub use Rattle.trust_base.specs.Limits.{IsAmount, IsBankAmount}
pub use Rattle.trust_matter.specs.Changes.{MatterChange, changed_by}
pub use Rattle.trust_matter.specs.edit.Edit.{Edit}
pub use Rattle.firm_figures.specs.Doubles.{in_order, put_in_order}
pub use Rattle.firm_figures.specs.Figures.{booked_on, entries_in, is_event_by, is_in_transit, is_moved_by, is_outstanding, journal, outstanding, transit, day_where}
pub use Rattle.firm_figures.specs.Purged.{IsClosedBy, IsPurge}
pub use Rattle.firm_figures.specs.Reconciling.{outstanding_share, transit_share}
unfoldable pub use Rattle.firm_figures.specs.Reconciling.{added}
