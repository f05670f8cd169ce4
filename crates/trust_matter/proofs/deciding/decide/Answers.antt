use Rattle.trust_matter.proofs.Names.{AnswersBy, Edit, HasAmount, Refusal, Result, kept_facts, refl, subst}
use Rattle.trust_matter.proofs.Decided.{DecidesAll, decided-made, decided-refused}
use Rattle.trust_matter.proofs.Late.{early-refused, gives-asked, handed-up}
use Rattle.trust_matter.proofs.StepForms.{asked}
use Rattle.trust_matter.proofs.deciding.decide.Goals.{Joined-ask-2, in-OpenMatter, in-AddSeat, in-DropSeat, in-Deposit, in-CancelDeposit, in-Propose-ask, in-Approve, in-Decline, in-Withdraw, in-VoidPayment, in-EarnFee, in-RaiseClaim-ask, in-Offer, in-Accept, in-Award, in-CloseMatter, in-Purge, in-ShowEntry, in-Show, in-ShowEntries, in-Accounting, in-Account}
use Rattle.trust_matter.proofs.deciding.decide.Goals as goal

-- what is decided of the ask, whatever it is, and that its amount is one
given : (c : Joined-ask-2) → AnswersBy (kept_facts c.args.matter.now c.args.ask.now) (asked c.args.caller.now c.args.ask.now c.args.day) c.match-ask-2.decided × HasAmount c.args.ask.now
given c = elim c.match-ask-2.branch [
  | in-OpenMatter w ↦ gives-asked c.args.matter.now c.args.caller.now c.args.ask.now _ c.args.day _ _ w.in-OpenMatter.is w.decided-is c.in_ok-check_caller.ensures tt w.decide_open-decided.ensures
  | in-AddSeat w ↦ gives-asked c.args.matter.now c.args.caller.now c.args.ask.now _ c.args.day _ _ w.in-AddSeat.is w.decided-is c.in_ok-check_caller.ensures tt w.decide_add_seat-decided.ensures
  | in-DropSeat w ↦ gives-asked c.args.matter.now c.args.caller.now c.args.ask.now _ c.args.day _ _ w.in-DropSeat.is w.decided-is c.in_ok-check_caller.ensures tt w.decide_drop_seat-decided.ensures
  | in-Deposit w ↦ gives-asked c.args.matter.now c.args.caller.now c.args.ask.now _ c.args.day _ _ w.in-Deposit.is w.decided-is c.in_ok-check_caller.ensures w.decide_deposit-decided.ensures.amount w.decide_deposit-decided.ensures.answer
  | in-CancelDeposit w ↦ gives-asked c.args.matter.now c.args.caller.now c.args.ask.now _ c.args.day _ _ w.in-CancelDeposit.is w.decided-is c.in_ok-check_caller.ensures tt w.decide_cancel-decided.ensures
  | in-Propose-ask w ↦ gives-asked c.args.matter.now c.args.caller.now c.args.ask.now _ c.args.day _ _ w.in-Propose-ask.is w.decided-is c.in_ok-check_caller.ensures w.decide_propose-decided.ensures.amount w.decide_propose-decided.ensures.answer
  | in-Approve w ↦ gives-asked c.args.matter.now c.args.caller.now c.args.ask.now _ c.args.day _ _ w.in-Approve.is w.decided-is c.in_ok-check_caller.ensures tt w.decide_approve-decided.ensures
  | in-Decline w ↦ gives-asked c.args.matter.now c.args.caller.now c.args.ask.now _ c.args.day _ _ w.in-Decline.is w.decided-is c.in_ok-check_caller.ensures tt w.decide_decline-decided.ensures
  | in-Withdraw w ↦ gives-asked c.args.matter.now c.args.caller.now c.args.ask.now _ c.args.day _ _ w.in-Withdraw.is w.decided-is c.in_ok-check_caller.ensures tt w.decide_withdraw-decided.ensures
  | in-VoidPayment w ↦ gives-asked c.args.matter.now c.args.caller.now c.args.ask.now _ c.args.day _ _ w.in-VoidPayment.is w.decided-is c.in_ok-check_caller.ensures tt w.decide_void-decided.ensures
  | in-EarnFee w ↦ gives-asked c.args.matter.now c.args.caller.now c.args.ask.now _ c.args.day _ _ w.in-EarnFee.is w.decided-is c.in_ok-check_caller.ensures w.decide_fee-decided.ensures.amount w.decide_fee-decided.ensures.answer
  | in-RaiseClaim-ask w ↦ gives-asked c.args.matter.now c.args.caller.now c.args.ask.now _ c.args.day _ _ w.in-RaiseClaim-ask.is w.decided-is c.in_ok-check_caller.ensures w.decide_claim-decided.ensures.amount w.decide_claim-decided.ensures.answer
  | in-Offer w ↦ gives-asked c.args.matter.now c.args.caller.now c.args.ask.now _ c.args.day _ _ w.in-Offer.is w.decided-is c.in_ok-check_caller.ensures tt w.decide_offer-decided.ensures
  | in-Accept w ↦ gives-asked c.args.matter.now c.args.caller.now c.args.ask.now _ c.args.day _ _ w.in-Accept.is w.decided-is c.in_ok-check_caller.ensures tt w.decide_accept-decided.ensures
  | in-Award w ↦ gives-asked c.args.matter.now c.args.caller.now c.args.ask.now _ c.args.day _ _ w.in-Award.is w.decided-is c.in_ok-check_caller.ensures tt w.decide_award-decided.ensures
  | in-CloseMatter w ↦ gives-asked c.args.matter.now c.args.caller.now c.args.ask.now _ c.args.day _ _ w.in-CloseMatter.is w.decided-is c.in_ok-check_caller.ensures tt w.decide_close-decided.ensures
  | in-Purge w ↦ gives-asked c.args.matter.now c.args.caller.now c.args.ask.now _ c.args.day _ _ w.in-Purge.is w.decided-is c.in_ok-check_caller.ensures tt w.decide_purge-decided.ensures
  | in-ShowEntry w ↦ gives-asked c.args.matter.now c.args.caller.now c.args.ask.now _ c.args.day _ _ w.in-ShowEntry.is w.decided-is c.in_ok-check_caller.ensures tt w.decide_show_entry-decided.ensures
  | in-Show w ↦ gives-asked c.args.matter.now c.args.caller.now c.args.ask.now _ c.args.day _ _ w.in-Show.is w.decided-is c.in_ok-check_caller.ensures tt (λ c'. (refl, refl))
  | in-ShowEntries w ↦ gives-asked c.args.matter.now c.args.caller.now c.args.ask.now _ c.args.day _ _ w.in-ShowEntries.is w.decided-is c.in_ok-check_caller.ensures tt (λ c'. (refl, refl))
  | in-Accounting w ↦ gives-asked c.args.matter.now c.args.caller.now c.args.ask.now _ c.args.day _ _ w.in-Accounting.is w.decided-is c.in_ok-check_caller.ensures tt (λ c'. (refl, refl))
  | in-Account w ↦ gives-asked c.args.matter.now c.args.caller.now c.args.ask.now _ c.args.day _ _ w.in-Account.is w.decided-is c.in_ok-check_caller.ensures tt (λ c'. (refl, refl))
]

pub returns-in_err-check_caller-clause-decided : goal.returns-in_err-check_caller-clause-decided
returns-in_err-check_caller-clause-decided c =
    λ held.
    let m = c.args.matter.now in
    let q = asked c.args.caller.now c.args.ask.now c.args.day in
    let early = early-refused m c.args.caller.now c.args.ask.now c.args.day _ c.in_err-check_caller.ensures in
    handed-up (DecidesAll m q) c.from_residual.result c.in_err-check_caller.field-0.0 c.from_residual.ensures.0
    c.from_residual.ensures.1
    (decided-refused m q _ held early)

pub returns-in_err-edit-clause-decided : goal.returns-in_err-edit-clause-decided
returns-in_err-edit-clause-decided c =
    λ held.
    let m = c.args.matter.now in
    let q = asked c.args.caller.now c.args.ask.now c.args.day in
    let told = given (goal.at.returns-in_err-edit-clause-decided c).Joined-ask-2 in
    let late =
    subst (λ (r : Result Edit Refusal). AnswersBy (kept_facts m c.args.ask.now) q r) c.in_err-edit.was told.0 in
    handed-up (DecidesAll m q) c.from_residual-in_err-edit.result c.in_err-edit.field-0.0
    c.from_residual-in_err-edit.ensures.0 c.from_residual-in_err-edit.ensures.1
    (decided-refused m q _ held late)

pub returns-clause-decided : goal.returns-clause-decided
returns-clause-decided c =
    λ held.
    let m = c.args.matter.now in
    let q = asked c.args.caller.now c.args.ask.now c.args.day in
    let told = given (goal.at.returns-clause-decided c).Joined-ask-2 in
    let late =
    subst (λ (r : Result Edit Refusal). AnswersBy (kept_facts m c.args.ask.now) q r) c.in_ok-edit.was told.0 in
    decided-made m q c.in_ok-edit.edit c.change_by.result held told.1 late c.change_by.ensures
