-- The names that the proofs of this crate cite, passed on from one place. Declares nothing.
pub use Rattle.matter_parts.proofs.StepForms.{rows-of}
pub use Rattle.matter_parts.specs.Changes.{IsExchange, changed_by, edited, head_after, last_after}
pub use Rattle.matter_parts.specs.declared.edit.Edit.{Edit}
pub use Rattle.matter_rows.proofs.Days.{map-with}
pub use Rattle.matter_rows.proofs.Entries.{entry_at-append, entry_at-with, none-past, within}
pub use Rattle.matter_rows.specs.Balances.{left_of}
unfoldable pub use Rattle.matter_rows.specs.Balances.{names}
pub use Rattle.matter_rows.specs.Clearings.{cleared_payment, clearing_by, deposit_by, has_amount_back, has_its_amount, is_cleared_state, is_clearing_by, is_deposit_cleared_by, is_deposit_returned_by, is_line_again, is_payment_cleared_by}
pub use Rattle.matter_rows.specs.Rows.{Rows, as_made, closed_on, comes_before, entry_at, is_gone, is_held_state, is_issued_state, is_of_nobody, is_proposed_state, is_purged, is_same_against, is_same_fund, last_of, next_number, role_in, seat_of, seats_with, seats_without, with_entry}
unfoldable pub use Rattle.matter_rows.specs.Shares.{available_share, disputed_share, draw, held_share, pending_share, total_share, worth}
pub use Rattle.matter_rows.specs.Sound.{AreBacked, AreInOrder, IsHeaded, Sound}
unfoldable pub use Rattle.matter_rows.specs.Sound.{days_of}
pub use Rattle.matter_rows.specs.declared.claim.Against.{Against}
pub use Rattle.matter_rows.specs.declared.deposit.Deposit.{Deposit}
pub use Rattle.matter_rows.specs.declared.deposit.DepositState.{DepositState}
pub use Rattle.matter_rows.specs.declared.entry.Entry.{Entry}
pub use Rattle.matter_rows.specs.declared.head.Head.{Head}
pub use Rattle.matter_rows.specs.declared.payment.Fund.{Fund}
pub use Rattle.matter_rows.specs.declared.payment.PaymentState.{PaymentState}
pub use Rattle.matter_rows.specs.declared.seat.Seat.{Seat}
pub use Rattle.std.proofs.Common.{Bool, List, None, Option, Some, [], ap, append-nil, append_assoc, arith, cond, eqb, false, inl, inr, length, map, not, pos, refl, rules, subst, sym, true, ℕ, ℤ, ⊎_elim, ◌&&◌, ◌++◌, ◌+◌, ◌-◌, ◌==◌, ◌||◌, ◌∙◌, ◌∷◌, ◌≡◌, ◌≤ℤ◌, ◌≤◌, ◌⊎◌}
pub use Rattle.std.proofs.lemmas.Bool.{false≢true}
pub use Rattle.std.proofs.lemmas.Bool.Decides.{nat_tests}
pub use Rattle.std.proofs.lemmas.Grind.{common_steps}
pub use Rattle.std.proofs.lemmas.Int.{ints}
pub use Rattle.std.proofs.lemmas.Slice.Eq.{bytes_eq-Decides}
pub use Rattle.std.specs.List.{AllByRecursion, filter}
pub use Rattle.std.specs.Option.{option_map}
pub use Rattle.std.specs.Prelude.{is_some, nat_lt}
pub use Rattle.std.specs.Str.{bytes_eq}
pub use Rattle.trust_base.specs.declared.line.Line.{Line}
pub use Rattle.trust_base.specs.declared.refusal.Refusal.{Refusal}
pub use Rattle.trust_matter.specs.Conditions.{comes_again, is_changing, is_in_another_state_for, is_not_yet_closed_for, is_opening, is_purging, is_repeat, is_unknown_to, misses, number_made, is_missing_for, is_of_another_kind_for}
pub use Rattle.trust_matter.specs.Facts.{Asked, Facts, facts_of, number_named}
pub use Rattle.trust_matter.specs.Laws.{ALine, AnAsk, AskRepeat, AskUnchanged, Doing, FirstReason, FullTakesNone, Grows, IsFirstReason, IsSameLine, LineRepeat, LineUnchanged, LinesLeaveMade, MadeStays, MadeStaysOrGoes, NoReason, PurgedStays, StubIsSound, TellsNoNumber, after_doing, all_after, made_in}
pub use Rattle.trust_matter.specs.LineStep.{IsApplied, after_line_effect, dated_by, first_reason, last_by, line_facts, line_on, matched, reasons, rows_after_line, told_by}
pub use Rattle.trust_matter.specs.Step.{after, claim_of, conditions, deposit_of, early_conditions, edit_of, edit_on, fee_of, first, opening, payment_of, refusal, refusal_of, rows_after}
pub use Rattle.trust_matter.specs.declared.ask.Ask.{Ask}
pub use Rattle.trust_matter.specs.declared.ask.OpenAsk.{OpenAsk}
pub use Rattle.trust_matter.specs.declared.bank_line.BankLine.{BankLine}
pub use Rattle.trust_matter.specs.declared.line_verdict.DatedEdit.{DatedEdit}
pub use Rattle.trust_matter.specs.declared.line_verdict.LineEffect.{LineEffect}
pub use Rattle.trust_matter.specs.declared.line_verdict.Reason.{Reason}
pub use Rattle.matter_parts.specs.Purging.{stub_rows}
pub use Rattle.matter_rows.specs.declared.act.Caller.{Caller}
