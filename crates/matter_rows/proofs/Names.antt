-- The names that the proofs of this crate cite, passed on from one place. Declares nothing.
pub use Rattle.std.proofs.Common.{Bool, FitsSigned, List, None, Option, Some, [], ap, arith, cond, drop, eqb, false, get_or, length, length-append, ltb, map, negsuc, not, of_z, pos, refl, rules, subst, suc, sum, sym, take, tests, to_z, true, w64, zero, ℕ, ℤ, ◌&&◌, ◌*◌, ◌++◌, ◌+ℤ◌, ◌+◌, ◌-ℤ◌, ◌-◌, ◌<◌, ◌==◌, ◌↔◌, ◌∙◌, ◌∷◌, ◌≡◌, ◌≢◌, ◌≤ℤ◌, ◌≤◌}
pub use Rattle.std.proofs.lemmas.Bool.{false≢true}
pub use Rattle.std.proofs.lemmas.Bool.Decides.{nat_tests}
pub use Rattle.std.proofs.lemmas.Int.{ints}
pub use Rattle.std.proofs.lemmas.List.{drop_more, length-drop, take_all, take_more}
pub use Rattle.std.specs.List.{AllByRecursion, filter, insert, position, position_or_len}
pub use Rattle.matter_rows.specs.Balances.{available, claims, disputed, fees, funds, held, is_fee, is_general, is_general_claim, is_settled, left_of, lefts_from, passes, total, total_of}
unfoldable pub use Rattle.matter_rows.specs.Balances.{names}
pub use Rattle.matter_rows.specs.Rows.{as_made, book_day, comes_before, entry_amount, entry_at, role_in, seat_of, seats_with, seats_without, with_entry}
pub use Rattle.matter_rows.specs.Shares.{AreSmallSums, IsSmallShare, IsSmallSum, against_no, apart, cleared_deposit, draw_on, from_claim, from_fee, from_general, fund_no, has_settled, held_deposit, off_fee, on_fee, on_general, paid, pending_payment, target, to_claimant, to_client}
unfoldable pub use Rattle.matter_rows.specs.Shares.{available_share, claim_share, disputed_share, draw, fee_share, held_share, pending_share, total_share, worth}
pub use Rattle.matter_rows.specs.Sound.{AreBacked, AreDated, AreInOrder, AreRising, IsAtRestIfClosed, IsBare, IsBy, IsFundedInTime, IsRanged, IsRising, part_of, settlement_day}
unfoldable pub use Rattle.matter_rows.specs.Sound.{days_of}
pub use Rattle.matter_rows.specs.SoundRows.{IsSoundEntry}
pub use Rattle.matter_rows.specs.declared.claim.Against.{Against}
pub use Rattle.matter_rows.specs.declared.claim.ClaimState.{ClaimState}
pub use Rattle.matter_rows.specs.declared.entry.Entry.{Entry}
pub use Rattle.matter_rows.specs.declared.payment.Fund.{Fund}
pub use Rattle.matter_rows.specs.declared.payment.PaymentState.{PaymentState}
pub use Rattle.matter_rows.specs.declared.seat.Seat.{Seat}
