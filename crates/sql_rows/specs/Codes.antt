-- The codes of the columns, by name. The code has its own numbers (`codes.rt`), which contracts compare with these.
use Rattle.std.specs.Prelude.{ℕ}

-- `kind` of an entry

abbrev pub deposit_kind : ℕ
deposit_kind = 1

abbrev pub payment_kind : ℕ
payment_kind = 2

abbrev pub fee_kind : ℕ
fee_kind = 3

abbrev pub claim_kind : ℕ
claim_kind = 4

-- `state` of a deposit

abbrev pub deposit_held : ℕ
deposit_held = 1

abbrev pub deposit_cleared : ℕ
deposit_cleared = 2

abbrev pub deposit_cancelled : ℕ
deposit_cancelled = 3

abbrev pub deposit_returned : ℕ
deposit_returned = 4

-- `state` of a payment

abbrev pub payment_proposed : ℕ
payment_proposed = 1

abbrev pub payment_declined : ℕ
payment_declined = 2

abbrev pub payment_issued : ℕ
payment_issued = 3

abbrev pub payment_cleared : ℕ
payment_cleared = 4

abbrev pub payment_voided : ℕ
payment_voided = 5

-- `state` of a claim

abbrev pub claim_open : ℕ
claim_open = 1

abbrev pub claim_offered : ℕ
claim_offered = 2

abbrev pub claim_settled : ℕ
claim_settled = 3

-- `fund` of a payment and of a claim

abbrev pub general_fund : ℕ
general_fund = 0

abbrev pub fee_fund : ℕ
fee_fund = 1

abbrev pub claim_fund : ℕ
claim_fund = 2

-- `role` of a seat

abbrev pub client_role : ℕ
client_role = 1

abbrev pub lawyer_role : ℕ
lawyer_role = 2

-- `kind` of a balance

abbrev pub opening_balance : ℕ
opening_balance = 1

abbrev pub closing_balance : ℕ
closing_balance = 2

-- `deed` of an act, in the order of the kinds of deeds

abbrev pub opened_deed : ℕ
opened_deed = 1

abbrev pub seated_deed : ℕ
seated_deed = 2

abbrev pub unseated_deed : ℕ
unseated_deed = 3

abbrev pub closed_deed : ℕ
closed_deed = 4

abbrev pub deposited_deed : ℕ
deposited_deed = 5

abbrev pub cancelled_deed : ℕ
cancelled_deed = 6

abbrev pub cleared_deed : ℕ
cleared_deed = 7

abbrev pub returned_deed : ℕ
returned_deed = 8

abbrev pub proposed_deed : ℕ
proposed_deed = 9

abbrev pub approved_deed : ℕ
approved_deed = 10

abbrev pub declined_deed : ℕ
declined_deed = 11

abbrev pub withdrawn_deed : ℕ
withdrawn_deed = 12

abbrev pub voided_deed : ℕ
voided_deed = 13

abbrev pub earned_deed : ℕ
earned_deed = 14

abbrev pub disputed_deed : ℕ
disputed_deed = 15

abbrev pub claimed_deed : ℕ
claimed_deed = 16

abbrev pub offered_deed : ℕ
offered_deed = 17

abbrev pub accepted_deed : ℕ
accepted_deed = 18

abbrev pub awarded_deed : ℕ
awarded_deed = 19

-- of a dismissal, which is no deed
abbrev pub dismissed_deed : ℕ
dismissed_deed = 20
