-- The names that the proofs of this crate cite, passed on from one place. Declares nothing.
pub use Rattle.std.proofs.Common.{Bool, Contains, List, None, Option, Some, [], ap, append-nil, append_assoc, arith, cond, drop, eqb, false, get_or, inl, inr, insert, length, length-append, map, max, not, refl, remove, rules, subst, suc, sym, take, true, zero, ℕ, ⊎_elim, ◌++◌, ◌+◌, ◌-◌, ◌<◌, ◌↔◌, ◌∙◌, ◌∷◌, ◌≡◌, ◌≢◌, ◌≤◌, ◌⊎◌}
pub use Rattle.std.proofs.lemmas.Bool.{cases_eq, cases_lt, cond_both, false≢true, not-true}
pub use Rattle.std.proofs.lemmas.Bool.Decides.{Decides-eqb, Decides-int_eq, nat_tests}
pub use Rattle.std.proofs.lemmas.Cmp.{nat_cmp_total, on_total, then_total, tied_back, tied_itself}
pub use Rattle.std.proofs.lemmas.Int.{ints}
pub use Rattle.std.proofs.lemmas.List.{map-append, take-append-le, take_all}
pub use Rattle.std.proofs.lemmas.List.Elements.{All-from_recursion, Contains-append_cases, Contains-append_left, Contains-append_right, filter-append, filter_passes, recursion_from_All}
pub use Rattle.std.specs.Cmp.{IsTotalOrder}
pub use Rattle.std.specs.List.{AllByRecursion, filter, flat_map, list_any}
pub use Rattle.std.specs.List.Sorted.{IsNonDecreasingBy}
unfoldable pub use Rattle.std.specs.List.Sorted.{IsStrictlySortedBy}
pub use Rattle.std.specs.Option.{option_map, option_or}
pub use Rattle.std.specs.Ordering.{int_eq, is_eq, is_lt, nat_cmp, ordering_index, ordering_reverse, ordering_then}
pub use Rattle.std.specs.Prelude.{find, nat_le, nat_lt, pos, slice_get, ℤ, ◌&&◌, ◌+ℤ◌, ◌-ℤ◌, ◌==◌, ◌≤ℤ◌}
pub use Rattle.std.specs.declared.cmp.Ordering.{Ordering}
pub use Rattle.std.specs.declared.cmp.Ordering.TheVariants.{Equal, Greater, Less}
pub use Rattle.matter_rows.specs.declared.act.Act.{Act}
pub use Rattle.trust_base.specs.declared.line.Line.{Line}
pub use Rattle.trust_matter.specs.Balances.{ledger}
pub use Rattle.trust_matter.specs.Changes.{acts_by, AreMoved, IsChange, IsMovedWithin, IsPlace, MatterChange, changed, changed_by, edited, events_by, movement_of}
pub use Rattle.trust_matter.specs.Events.{Event, as_movement, cancelling, events_in, payments, received}
unfoldable pub use Rattle.trust_matter.specs.Events.{events_of}
pub use Rattle.trust_matter.specs.Laws.{Covered}
pub use Rattle.trust_matter.specs.Rows.{Rows, entry_at, last_of, unopened, with_entry}
pub use Rattle.trust_matter.specs.Sound.{AreRising, Sound}
pub use Rattle.trust_matter.specs.edit.Edit.{Edit}
pub use Rattle.trust_matter.specs.entry.Entry.{Entry}
pub use Rattle.firm_rows.specs.Firm.{EntryRow, Firm, HeadRow, Row, SeatRow, acts_left, acts_without, after_change, after_dismissal, after_edit, after_match, after_stray, among, purged_by, empty_firm, entries_among, entry_pairs, head_pairs, is_of_matter, joined_act, joined_acts, joined_movement, kept_movements, moved_by, moved_without, of, own_movement, pairs, put, rewritten_by, rows_of, seat_pairs, with_acts, with_dismissal, with_dismissals, with_firm_line, with_trail, with_balance_row}
pub use Rattle.firm_rows.specs.FirmChange.{Dismissed, FitsFirm, OfBalance, OfFirm, OfMatter, Repeated, Unmatched, by_balance, matched_by}
pub use Rattle.firm_rows.specs.FirmLines.{IsOwnBalance, as_firm_line, balance_cmp, balance_of, balance_row, balance_verdict, is_balance_on, is_kept_as, is_own_balance, kept_balance, place_of, with_balance}
pub use Rattle.firm_rows.specs.FirmSound.{ActsDecideNothing, ActsOfOneChange, AreMovedInTime, BalanceFits, ChangesOne, DismissalsDecideNothing, DismissalsOfOneChange, FirmLineFits, FirmSound, IsInOrder, LineFits, PurgeLeavesOthers, PurgedMovesNothing, SoundIsSolvent, StaysInOrder, StaysSound}
pub use Rattle.firm_rows.specs.Journal.{amount_for, days_moved, event_of, events_moved, firm_events, is_of_entry, is_of_firm, ledger_share, line_event, moved_for, row_share}
pub use Rattle.firm_rows.specs.Sums.{sum_of}
pub use Rattle.firm_rows.specs.declared.dismissal.Dismissal.{Dismissal}
pub use Rattle.firm_rows.specs.declared.ledger.FirmLine.{FirmLine}
pub use Rattle.firm_rows.specs.declared.ledger.BalanceRow.{BalanceRow}
pub use Rattle.firm_rows.specs.declared.matter_act.MatterAct.{MatterAct}
pub use Rattle.firm_rows.specs.declared.movement.Movement.{Movement}
pub use Rattle.firm_rows.specs.declared.movement.Owner.{Owner}
