-- The names that the proofs of this crate cite, passed on from one place. Declares nothing.
pub use Rattle.matter_parts.specs.Changes.{changed_by, edited, seats_after}
pub use Rattle.matter_parts.specs.declared.edit.Edit.{Edit}
pub use Rattle.matter_rows.proofs.Entries.{entry_at-append, entry_at-with, none-past}
pub use Rattle.matter_rows.specs.Clearings.{cleared_payment, is_return}
pub use Rattle.matter_rows.specs.Rows.{Rows, entry_at, is_number, is_proposed_state, unopened, with_entry}
pub use Rattle.matter_rows.specs.Sound.{IsHeaded, Sound}
pub use Rattle.matter_rows.specs.declared.act.Act.{Act}
pub use Rattle.matter_rows.specs.declared.act.Caller.{Caller}
pub use Rattle.matter_rows.specs.declared.act.Deed.{Deed}
pub use Rattle.matter_rows.specs.declared.claim.Against.{Against}
pub use Rattle.matter_rows.specs.declared.entry.Entry.{Entry}
pub use Rattle.matter_rows.specs.declared.head.Head.{Head}
pub use Rattle.matter_rows.specs.declared.payment.Payment.{Payment}
pub use Rattle.matter_rows.specs.declared.payment.PaymentState.{PaymentState}
pub use Rattle.matter_rows.specs.declared.seat.Role.{Role}
pub use Rattle.matter_rows.specs.declared.seat.Seat.{Seat}
pub use Rattle.std.proofs.Common.{Bool, List, None, Option, Some, [], ap, append-nil, append_assoc, arith, cond, eqb, false, fold, map, not, refl, subst, sym, true, ℕ, ◌&&◌, ◌++◌, ◌∙◌, ◌∷◌, ◌≡◌}
pub use Rattle.std.proofs.lemmas.Bool.{false≢true}
pub use Rattle.std.proofs.lemmas.Bool.Decides.{nat_tests}
pub use Rattle.std.proofs.lemmas.Int.{ints}
pub use Rattle.std.proofs.lemmas.List.{map-append}
pub use Rattle.std.proofs.lemmas.List.Elements.{filter-append}
pub use Rattle.std.proofs.lemmas.List.Sums.{fold-append}
pub use Rattle.std.specs.List.{AllByRecursion, filter}
pub use Rattle.std.specs.Option.{option_map}
pub use Rattle.std.specs.Prelude.{is_some, option_to_list}
pub use Rattle.trust_base.specs.declared.line.Line.{Line}
pub use Rattle.trust_base.specs.declared.refusal.Refusal.{Refusal}
pub use Rattle.trust_base.specs.declared.refusal.Rule.{Rule}
pub use Rattle.trust_matter.proofs.LineSteps.{applied-matched, lines-sound}
pub use Rattle.trust_matter.proofs.StepForms.{asked, claim-changes, none-is, not-false}
pub use Rattle.trust_matter.proofs.Steps.{steps-sound}
pub use Rattle.trust_matter.proofs.Table.{Passes, passes}
pub use Rattle.trust_matter.specs.Acts.{act_by, deed_against, deed_of, done_by}
pub use Rattle.trust_matter.specs.Conditions.{has_no_seat, is_changing, is_in_another_state_for, is_missing_for, is_not_allowed, is_not_yet_closed_for, is_of_another_kind_for, is_opening, is_purging, is_repeat, was_purged}
pub use Rattle.trust_matter.specs.Facts.{Asked, facts_of, number_named}
pub use Rattle.trust_matter.specs.Laws.{ALine, AnAsk, Doing}
pub use Rattle.trust_matter.specs.LineStep.{IsApplied, after_line_effect, last_by, line_act, line_facts, line_on, told_by}
pub use Rattle.trust_matter.specs.Policy.{allows, rule_against, rule_of}
pub use Rattle.trust_matter.specs.Step.{after, claim_of, deposit_of, edit_of, edit_on, fee_of, first, payment_of, refusal, settled, voided}
pub use Rattle.trust_matter.specs.declared.ask.Ask.{Ask}
pub use Rattle.trust_matter.specs.declared.bank_line.BankLine.{BankLine}
pub use Rattle.trust_matter.specs.declared.line_verdict.DatedEdit.{DatedEdit}
pub use Rattle.trust_matter.specs.declared.line_verdict.LineEffect.{LineEffect}
pub use Rattle.trail_laws.specs.Dossier.{Dossier, acts_after, acts_after_line, no_dossier, dossier_after_run, dossier_after_step}
