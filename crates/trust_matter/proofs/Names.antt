-- The names that the proofs of this crate cite, passed on from one place. Declares nothing.
pub use Rattle.matter_parts.proofs.Editing.{backed-none, deposit-may, left-drawn, left-moved}
pub use Rattle.matter_parts.proofs.MadeChange.{change-is}
pub use Rattle.matter_parts.proofs.NeverStore.{never-store}
pub use Rattle.matter_parts.proofs.Parts.{held-entry}
pub use Rattle.matter_parts.proofs.StepForms.{IsStepOf, MovesWithin, rows-of}
pub use Rattle.matter_parts.specs.Changes.{AreSmallTotals, MatterChange, changed_by, last_after, IsChange}
pub use Rattle.matter_parts.specs.Parts.{AreFigures, IsPart, Part, entry_in, is_held, is_held_or_none, kept_at, total_kept}
pub use Rattle.matter_parts.specs.TotalsAfter.{EditMoved, IsMade}
pub use Rattle.matter_parts.specs.declared.change.TotalsAfter.{TotalsAfter}
pub use Rattle.matter_parts.specs.declared.edit.Edit.{Edit}
pub use Rattle.matter_parts.specs.declared.edit.Numbered.{Numbered}
pub use Rattle.matter_rows.proofs.Covered.{sound-covered, total-covered}
pub use Rattle.matter_rows.proofs.Days.{dated-append, dated-later, dated-with, made-before, not-bare, not-closed, unclosed-bare, up-to}
pub use Rattle.matter_rows.proofs.Entries.{all-at, within}
pub use Rattle.matter_rows.proofs.Keeping.{MayAdd, MayTake, sound-append, sound-with, target-apart, total-undrawn}
pub use Rattle.matter_rows.specs.Balances.{available, exceeds, fund_left, funds, is_fee, is_general, is_settled, ledger, left_in, left_of, passes as of_kind, pending}
unfoldable pub use Rattle.matter_rows.specs.Balances.{names}
pub use Rattle.matter_rows.specs.Clearings.{cleared_payment, clearing_by, deposit_by, has_amount_back, is_cleared_state, is_line_again}
pub use Rattle.matter_rows.specs.Events.{Event, events_in, paid_out, payments, received}
unfoldable pub use Rattle.matter_rows.specs.Events.{events_of}
pub use Rattle.matter_rows.specs.Rows.{Rows, as_made, book_day, entry_at, is_gone, is_held_state, is_issued_state, is_number, is_proposed_state, is_purged, next_number, role_in, seats_with, seats_without}
pub use Rattle.matter_rows.specs.Shares.{against_no, cleared_deposit, from_general, fund_no, has_settled, held_deposit, off_fee, on_fee, on_general, paid, pending_payment, target, target_in, to_claimant, to_client}
unfoldable pub use Rattle.matter_rows.specs.Shares.{available_share, draw, held_share, pending_share, worth}
pub use Rattle.matter_rows.specs.Sound.{AreBacked, AreDated, AreInOrder, IsAtRestIfClosed, IsBy, IsHeaded, IsRanged, IsRising, Sound, deposit_bank, deposit_days, part_of, payment_bank, payment_days, settlement_day}
unfoldable pub use Rattle.matter_rows.specs.Sound.{days_of}
pub use Rattle.matter_rows.specs.declared.act.Caller.{Caller}
pub use Rattle.matter_rows.specs.declared.claim.Against.{Against}
pub use Rattle.matter_rows.specs.declared.claim.ClaimState.{ClaimState}
pub use Rattle.matter_rows.specs.declared.deposit.Deposit.{Deposit}
pub use Rattle.matter_rows.specs.declared.deposit.DepositState.{DepositState}
pub use Rattle.matter_rows.specs.declared.deposit.ReturnedDeposit.{ReturnedDeposit}
pub use Rattle.matter_rows.specs.declared.entry.Entry.{Entry}
pub use Rattle.matter_rows.specs.declared.head.Head.{Head}
pub use Rattle.matter_rows.specs.declared.payment.Fund.{Fund}
pub use Rattle.matter_rows.specs.declared.payment.Payment.{Payment}
pub use Rattle.matter_rows.specs.declared.payment.PaymentState.{PaymentState}
pub use Rattle.matter_rows.specs.declared.seat.Seat.{Seat}
pub use Rattle.std.proofs.Common.{Bool, Err, IfOk, List, None, Ok, OnErr, Option, Result, Some, [], ap, append-nil, arith, cond, eqb, false, inl, inr, length, max, not, pos, refl, rules, subst, sym, true, ℕ, ℤ, ⊎_elim, ◌&&◌, ◌++◌, ◌+ℤ◌, ◌+◌, ◌-ℤ◌, ◌<◌, ◌||◌, ◌∙◌, ◌∷◌, ◌≡◌, ◌≤ℤ◌, ◌≤◌, ◌⊎◌}
pub use Rattle.std.proofs.Math.Nat.{le-max_left, le-max_right, le_refl}
pub use Rattle.std.proofs.lemmas.Bool.{false≢true}
pub use Rattle.std.proofs.lemmas.Bool.Decides.{nat_tests}
pub use Rattle.std.proofs.lemmas.Grind.{common_steps}
pub use Rattle.std.proofs.lemmas.Int.{ints}
pub use Rattle.std.specs.List.{AllByRecursion}
pub use Rattle.std.specs.Prelude.{IsSome, is_none, is_some, nat_lt, slice_get}
pub use Rattle.trust_base.specs.Limits.{IsAmount}
pub use Rattle.trust_base.specs.declared.line.Line.{Line}
pub use Rattle.trust_base.specs.declared.refusal.Refusal.{Refusal}
pub use Rattle.trust_matter.specs.Conditions.{against_left, comes_again, differs_from_offer, exceeds_claim, goes_backwards, has_a_seat_already, has_no_seat, has_none_to_drop, is_an_entry, is_another_offer, is_as_asked, is_bad_split, is_claim_settled, is_claim_without_offer, is_closed, is_deposit_not_held, is_fee_asked, is_in_another_state, is_no_claim, is_no_deposit, is_no_fee, is_no_fund, is_no_fund_yet, is_no_payment, is_not_allowed, is_not_empty, is_not_next, is_not_there, is_of_another_kind, is_offered_state, is_on_fee, is_opened_already, is_opening, is_payment_not_issued, is_payment_not_proposed, is_repeat, is_short, is_short_payment, is_unknown_to, is_zero, misses, was_purged}
pub use Rattle.trust_matter.specs.Facts.{Asked, Facts, facts_of, number_named, other_of}
pub use Rattle.trust_matter.specs.KeptFacts.{holds_for, holds_for_line, kept_facts, kept_line_facts}
pub use Rattle.trust_matter.specs.Laws.{LeastRefusal, LinesKeepSound, NoReasonHolds, NoneHolds as NoRefusal, SoundForEver, Stands, Holds, IsLeast}
pub use Rattle.trust_matter.specs.LineStep.{IsApplied, IsLineDecided, LineDecides, LineFacts, after_line_effect, awaits_no_line, dated_by, first_reason, has_no_line, is_of_another_amount, is_uncovered, last_by, line_effect, line_facts, line_on, matched, reasons, told_by}
pub use Rattle.trust_matter.specs.Policy.{changes_matter, rule_against, rule_of, allows}
pub use Rattle.trust_matter.specs.Step.{Answers, AnswersBy, AnswersLateBy, Decides, HasAmount, MayRefuse, after, cancelled, claim_of, conditions, decided, deposit_of, early_conditions, edit_of, edit_on, fee_of, first, late_refusal, later_conditions, opening, payment_of, refusal, refusal_of, settled, voided, with_claim, with_payment}
pub use Rattle.trust_matter.specs.declared.ask.Ask.{Ask}
pub use Rattle.trust_matter.specs.declared.ask.DepositAsk.{DepositAsk}
pub use Rattle.trust_matter.specs.declared.ask.FeeAsk.{FeeAsk}
pub use Rattle.trust_matter.specs.declared.ask.OpenAsk.{OpenAsk}
pub use Rattle.trust_matter.specs.declared.bank_line.BankLine.{BankLine}
pub use Rattle.trust_matter.specs.declared.claim.ClaimAsk.{ClaimAsk}
pub use Rattle.trust_matter.specs.declared.line_verdict.DatedEdit.{DatedEdit}
pub use Rattle.trust_matter.specs.declared.line_verdict.LineEffect.{LineEffect}
pub use Rattle.trust_matter.specs.declared.line_verdict.Reason.{Reason}
pub use Rattle.trust_matter.specs.declared.payment.PaymentAsk.{PaymentAsk}
