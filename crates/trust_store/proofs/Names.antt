-- The names that the proofs of this crate cite, passed on from one place. Declares nothing.
pub use Rattle.firm_rows.proofs.Ordered.{absent-at, all-append, found-at, rises}
pub use Rattle.firm_rows.specs.Countable.{IsRowInRange, MOST_ROWS}
pub use Rattle.firm_rows.specs.Firm.{EntryRow, Firm, HeadRow, Row, SeatRow, acted, after_change, among, empty_firm, entry_pairs, head_pairs, headed, joined_acts, joined_movement, kept_movements, moved_by, moved_without, of, own_movement, pairs, put, rows_of, seat_pairs, with_line, with_trail, without_line}
pub use Rattle.firm_rows.specs.FirmChange.{FirmChange, OfMatter}
pub use Rattle.firm_rows.specs.FirmLines.{IsOwnBalance, as_firm_line, balance_cmp, balance_of, kept_balance, with_balance}
pub use Rattle.firm_rows.specs.FirmSound.{FirmSound}
pub use Rattle.firm_rows.specs.declared.ledger.FirmLine.{FirmLine}
pub use Rattle.firm_rows.specs.declared.ledger.BalanceRow.{BalanceRow}
pub use Rattle.firm_rows.specs.declared.dismissal.Dismissal.{Dismissal}
pub use Rattle.firm_rows.specs.declared.matter_act.MatterAct.{MatterAct}
pub use Rattle.firm_rows.specs.declared.movement.Movement.{Movement}
pub use Rattle.matter_parts.specs.Changes.{IsChange, MatterChange, changed}
pub use Rattle.matter_parts.specs.Parts.{AreNumbered, IsPart, IsWhole, Part, entries_kept, entry_in, is_held, is_held_or_none, is_it, kept_at, kept_in, target_by}
pub use Rattle.matter_parts.specs.declared.kept.Kept.{Kept}
pub use Rattle.matter_rows.specs.Rows.{Rows, entry_at, unopened}
pub use Rattle.matter_rows.specs.Shares.{number_or_none, target, target_in}
pub use Rattle.matter_rows.specs.declared.entry.Entry.{Entry}
pub use Rattle.matter_rows.specs.declared.head.Head.{Head}
pub use Rattle.matter_rows.specs.declared.seat.Seat.{Seat}
pub use Rattle.std.proofs.Common.{Bool, Err, IfErr, IfOk, List, None, Ok, Option, Result, Some, [], ap, append-nil, append_assoc, arith, cond, drop, false, fold, get_or, inl, inr, length, length-append, map, of_z, refl, rules, set, subst, suc, sym, take, tests, to_z, true, w64, zero, ℕ, ℤ, ◌++◌, ◌+ℤ◌, ◌+◌, ◌<◌, ◌∙◌, ◌∷◌, ◌≡◌, ◌≢◌, ◌≤◌, ◌⊎◌}
pub use Rattle.std.proofs.lemmas.Bool.{cases_Bool, cases_lt}
pub use Rattle.std.proofs.lemmas.Bool.Decides.{nat_tests}
pub use Rattle.std.proofs.lemmas.Fn.{always_returns_same, filter_same}
pub use Rattle.std.proofs.lemmas.List.Sorted.{answers_always}
pub use Rattle.std.proofs.lemmas.Option.{get_or_from_slice_get, slice_get-get_or, slice_get_past}
pub use Rattle.std.proofs.lemmas.Result.{IfOk-weaker, on_ok_weaker}
pub use Rattle.std.specs.List.{AllByRecursion}
pub use Rattle.std.specs.List.Sorted.{IsBinarySearchResult, IsNonDecreasingBy, IsSearchInRange}
unfoldable pub use Rattle.std.specs.List.Sorted.{IsStrictlySortedBy}
pub use Rattle.std.specs.Prelude.{IsSome, insert, nat_lt, slice_get, ◌==◌, ◌||◌}
pub use Rattle.trust_base.specs.LineOrder.{line_cmp}
pub use Rattle.trust_base.specs.declared.line.Line.{Line}
pub use Rattle.firm_rows.specs.Handing.{HandedOver}
pub use Rattle.trust_store.specs.Calls.{IsWrite, IsWriteIf}
pub use Rattle.trust_store.specs.Kept.{AreKept, AreKeptWhole, Ascends, IsBefore, IsKeptAs, IsKeptWhole, StandsAt, WouldStandAt, firm_of, joined, kept_pairs, matters_with, place, rows_in, rows_kept, seek, told}
pub use Rattle.trust_store.specs.MatterActs.{acts_in}
pub use Rattle.trust_store.specs.Named.{IsPartFor, LineIsHeld, NamedAreHeld, drawn_on, is_named, is_number}
pub use Rattle.trust_store.specs.declared.plain.KeptMatter.{KeptMatter}
pub use Rattle.std.proofs.lemmas.Int.{ints}
