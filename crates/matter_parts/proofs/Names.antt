-- The names that the proofs of this crate cite, passed on from one place. Declares nothing.
pub use Rattle.matter_rows.proofs.Adding.{IsSumOf, IsSumTo, fits, more, small-sum, start, whole}
pub use Rattle.matter_rows.proofs.Collected.{entry-at, entry-at-place}
pub use Rattle.matter_rows.proofs.Covered.{total-covered}
pub use Rattle.matter_rows.proofs.Entries.{entry_at-append, entry_at-with, length-with, none-past, within}
pub use Rattle.matter_rows.proofs.Exchange.{all-map, claims-by_share, fees-by_share}
pub use Rattle.matter_rows.proofs.Keeping.{MayAdd, MayTake, draw-apart, left-append, left-with, sound-append, sound-with, target-apart, total-undrawn}
pub use Rattle.matter_rows.proofs.Places.{place-none, place-some}
pub use Rattle.matter_rows.proofs.Store.{IsBalance, available-balance, claims-balance, disputed-balance, fees-balance, held-balance, left-balance, natural, pending-balance}
pub use Rattle.matter_rows.proofs.Sums.{total-append, total-with}
pub use Rattle.matter_rows.specs.Balances.{available, claims, disputed, fees, funds, held, is_against, is_fee, is_general_claim, is_settled, left_at, left_in, left_of, passes, total_of}
unfoldable pub use Rattle.matter_rows.specs.Balances.{names}
pub use Rattle.matter_rows.specs.Rows.{Rows, as_made, purged_head, closed_head, closed_on, entry_at, last_of, role_in, seats_with, seats_without, seen_on, with_entry}
pub use Rattle.matter_rows.specs.Shares.{AreSmallShares, IsSmallShare, IsSmallSum, against_no, draw_on, fund_no, no_shares, number_or_none, shares_of, target}
unfoldable pub use Rattle.matter_rows.specs.Shares.{available_share, claim_share, disputed_share, draw, fee_share, held_share, pending_share, worth}
pub use Rattle.matter_rows.specs.Sound.{AreBacked, AreInOrder, IsAtRestIfClosed, IsBy, IsFundedInTime, IsHeaded, IsRanged, IsRising, Sound}
pub use Rattle.matter_rows.specs.SoundRows.{AreInForm, IsByIfClosed, IsClosedWithin, IsSoundEntry}
pub use Rattle.matter_rows.specs.declared.entry.Entry.{Entry}
pub use Rattle.matter_rows.specs.declared.head.Head.{Head}
pub use Rattle.matter_rows.specs.declared.limits.TheConstants.{MAX_TOTAL}
pub use Rattle.matter_rows.specs.declared.seat.Seat.{Seat}
pub use Rattle.matter_rows.specs.declared.shares.Shares.{Shares}
pub use Rattle.std.proofs.Common.{All, Bool, Bor, IfSome, List, None, OnOk, Option, Result, Some, [], ap, arith, cond, drop, eqb, false, get_or, inl, inr, is_some, length, length-append, ltb, of_z, pos, refl, replicate, rules, subst, suc, sym, take, to_z, true, w64, zero, ℕ, ℤ, ◌++◌, ◌+ℤ◌, ◌+◌, ◌-ℤ◌, ◌-◌, ◌<◌, ◌==◌, ◌||◌, ◌↔◌, ◌∙◌, ◌∷◌, ◌≡◌, ◌≢◌, ◌≤ℤ◌, ◌≤◌, ◌⊎◌}
pub use Rattle.std.proofs.Math.ListN.{set}
pub use Rattle.std.proofs.lemmas.Bool.{false≢true}
pub use Rattle.std.proofs.lemmas.Bool.Decides.{nat_tests}
pub use Rattle.std.proofs.lemmas.Int.{ints}
pub use Rattle.std.proofs.lemmas.List.{append-nil, get_or-replicate, get_or-set_other, get_or-set_same, get_or_read, length-map, length-replicate, length-set, length_push, map_more, take_all, take_more}
pub use Rattle.std.proofs.lemmas.List.Elements.{All-head, All-tail, filter_more}
pub use Rattle.std.specs.List.{AllByRecursion, filter, position, position_or_len, slice_get}
pub use Rattle.matter_parts.specs.Applied.{IsWritten, entry_put, kept_as, left_written, other_written}
pub use Rattle.matter_parts.specs.Audit.{AreDrawn, AreInPlace, IsInPlace, IsSoundWhole, IsUntargeted, WholeIsSound, rows_kept}
pub use Rattle.matter_parts.specs.Changes.{AreLeft, AreLefts, AreMoved, AreSmallTotals, IsChange, IsExchange, IsMovedWithin, IsOther, IsPlace, IsSmallOther, MatterChange, NoneLeft, changed, changed_by, edited, head_after, movement_of, seats_after}
pub use Rattle.matter_parts.specs.NamedEntries.{IsNextPlace, has_number}
pub use Rattle.matter_parts.specs.Parts.{AreBalances, AreEmptyIfClosed, AreFigures, AreKept, AreNumbered, AreSmall, HoldsAll, HoldsOn, IsEntryOf, IsPart, IsWhole, Part, entries_kept, entry_in, is_held, is_held_or_none, is_it, is_named, kept_at, kept_in, left_if, left_kept, named_part, no_figures, target_by}
pub use Rattle.matter_parts.specs.TotalsAfter.{AppendMoved, EditMoved, EntryMoved, ExchangeMoved, FiguresMoved, NoneMoved, OtherCases, OtherMoved, movement_kept}
pub use Rattle.matter_parts.specs.declared.change.Before.{Before}
pub use Rattle.matter_parts.specs.declared.change.Left.{Left}
pub use Rattle.matter_parts.specs.declared.change.TotalsAfter.{TotalsAfter}
pub use Rattle.matter_parts.specs.declared.edit.Edit.{Edit}
pub use Rattle.matter_parts.specs.declared.edit.Numbered.{Numbered}
pub use Rattle.matter_parts.specs.declared.figures.Figures.{Figures}
pub use Rattle.matter_parts.specs.declared.kept.Kept.{Kept}
