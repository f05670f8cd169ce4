-- When an ask is refused: one named test for each refusal.
use Rattle.std.specs.Prelude.{ℕ, Bool, true, false, not, ◌&&◌, ◌||◌, ◌==◌, nat_lt, List, Option, Some, None, is_some, is_none, ℤ, pos, negsuc}
use Rattle.std.specs.Str.{bytes_eq}
use Rattle.trust_base.specs.Names.{is_cash_label, is_firm_label}
use Rattle.trust_base.specs.Retention.{first_purge_day}
use Rattle.matter_rows.specs.declared.seat.Role.{Role}
use Rattle.matter_rows.specs.declared.head.Head.{Head}
use Rattle.matter_rows.specs.declared.seat.Seat.{Seat}
use Rattle.matter_rows.specs.declared.claim.ClaimState.{ClaimState}
use Rattle.matter_rows.specs.declared.claim.ClaimState.TheVariants as claim
use Rattle.matter_rows.specs.declared.payment.Fund.{Fund}
use Rattle.matter_rows.specs.declared.payment.Fund.TheVariants as fund
use Rattle.matter_rows.specs.declared.claim.Against.{Against}
use Rattle.matter_rows.specs.declared.claim.Against.TheVariants as against
use Rattle.matter_rows.specs.declared.entry.Entry.{Entry}
use Rattle.matter_rows.specs.declared.entry.Entry.TheVariants as entry
use Rattle.matter_rows.specs.Shares.{has_settled}
use Rattle.matter_rows.specs.Balances.{is_fee, is_general_claim, exceeds, fund_left}
use Rattle.matter_rows.specs.Rows.{is_purged, role_in, last_of, closed_on, next_number, has_other_lawyer, is_held_state, is_issued_state, is_lawyer, is_number, is_proposed_state, is_same_against, is_same_fund}
use Rattle.matter_rows.specs.declared.act.Caller.{Caller}
use Rattle.matter_rows.specs.declared.act.Caller.TheVariants as caller
use Rattle.trust_matter.specs.declared.ask.DepositAsk.{DepositAsk}
use Rattle.trust_matter.specs.declared.payment.PaymentAsk.{PaymentAsk}
use Rattle.trust_matter.specs.declared.ask.FeeAsk.{FeeAsk}
use Rattle.trust_matter.specs.declared.claim.ClaimAsk.{ClaimAsk}
use Rattle.trust_matter.specs.declared.ask.Ask.{Ask}
use Rattle.trust_matter.specs.declared.ask.Ask.TheVariants as ask
use Rattle.trust_matter.specs.Policy.{rule_of, changes_matter, allows}
use Rattle.trust_matter.specs.Facts.{Facts, Asked}

-- What kind of ask it is.

abbrev pub is_opening : Ask → Bool
is_opening (ask.OpenMatter a) = true
is_opening _ = false

abbrev pub is_purging : Ask → Bool
is_purging ask.Purge = true
is_purging _ = false

-- the ask is answered with lines of text
abbrev pub is_text : Ask → Bool
is_text ask.Accounting = true
is_text (ask.Account p) = true
is_text _ = false

-- the ask is answered with the whole matter
abbrev pub is_whole : Ask → Bool
is_whole ask.ShowEntries = true
is_whole ask.Accounting = true
is_whole (ask.Account p) = true
is_whole _ = false

-- the ask comes under a rule that changes the matter
abbrev pub is_changing : Ask → Bool
is_changing a = changes_matter (rule_of a)

-- the number of the entry that the ask makes
abbrev pub number_made : Ask → Option ℕ
number_made (ask.Deposit a) = Some a.number
number_made (ask.Propose a) = Some a.number
number_made (ask.EarnFee a) = Some a.number
number_made (ask.RaiseClaim a) = Some a.number
number_made _ = None

-- Who may ask, and when.

-- the matter does not exist for the caller: a person without a seat, or the cashier if it was never opened and this ask
-- does not open it
abbrev pub is_unknown_to : Caller → Option Head → List Seat → Ask → Bool
is_unknown_to caller.Cashier head seats ask = is_none head && not (is_opening ask)
is_unknown_to (caller.Person p) head seats ask = is_none (role_in seats p)

abbrev pub has_no_seat : Facts → Asked → Bool
has_no_seat f a = is_unknown_to a.caller f.head f.seats a.ask

-- the matter was purged
abbrev pub was_purged : Facts → Asked → Bool
was_purged f a = is_purged f.head

-- the policy forbids this caller to ask under the ask's rule
abbrev pub is_not_allowed : Facts → Asked → Bool
is_not_allowed f a = not (allows f.seats a.caller (rule_of a.ask))

-- the matter is to be opened, but already was
abbrev pub is_opened_already : Facts → Asked → Bool
is_opened_already f a = is_opening a.ask && is_some f.head

-- a change of a closed matter, other than opening or purging it
abbrev pub is_closed : Facts → Asked → Bool
is_closed f a = is_changing a.ask && not (is_opening a.ask) && not (is_purging a.ask) && is_some (closed_on f.head)

-- a change on a day before the matter's last day
abbrev pub goes_backwards : Facts → Asked → Bool
goes_backwards f a = is_changing a.ask && nat_lt a.day (last_of f.head)

abbrev pub misses : Option ℕ → Option ℕ → Bool
misses next None = false
misses next (Some n) = not (is_number next n)

-- the entry to be made does not have the next number
abbrev pub is_not_next : Facts → Asked → Bool
is_not_next f a = misses (next_number f.count) (number_made a.ask)

-- the fund is an entry: a fee or a claim
abbrev pub is_an_entry : Fund → Bool
is_an_entry fund.General = false
is_an_entry (fund.Fee k) = true
is_an_entry (fund.Claim k) = true

abbrev pub is_on_fee : Against → Bool
is_on_fee (against.General claimant) = false
is_on_fee (against.Fee k) = true

-- the entry that the ask is about, or the fee or claim that it names, does not exist
abbrev pub is_missing_for : Ask → Option Entry → Option Entry → Bool
is_missing_for (ask.OpenMatter a) e other = false
is_missing_for (ask.AddSeat s) e other = false
is_missing_for (ask.DropSeat p) e other = false
is_missing_for (ask.Deposit a) e other = false
is_missing_for (ask.CancelDeposit n) e other = is_none e
is_missing_for (ask.Propose a) e other = is_an_entry a.fund && is_none other
is_missing_for (ask.Approve n) e other = is_none e
is_missing_for (ask.Decline n) e other = is_none e
is_missing_for (ask.Withdraw n) e other = is_none e
is_missing_for (ask.VoidPayment n) e other = is_none e
is_missing_for (ask.EarnFee a) e other = false
is_missing_for (ask.RaiseClaim a) e other = is_on_fee a.against && is_none other
is_missing_for (ask.Offer a) e other = is_none e
is_missing_for (ask.Accept a) e other = is_none e
is_missing_for (ask.Award a) e other = is_none e
is_missing_for ask.CloseMatter e other = false
is_missing_for ask.Purge e other = false
is_missing_for ask.Show e other = false
is_missing_for (ask.ShowEntry n) e other = is_none e
is_missing_for ask.ShowEntries e other = false
is_missing_for ask.Accounting e other = false
is_missing_for (ask.Account p) e other = false

-- the entry does not exist
abbrev pub is_not_there : Facts → Asked → Bool
is_not_there f a = is_missing_for a.ask f.entry f.other

abbrev pub is_no_deposit : Option Entry → Bool
is_no_deposit None = false
is_no_deposit (Some (entry.Deposit d)) = false
is_no_deposit (Some (entry.Payment p)) = true
is_no_deposit (Some (entry.Fee f)) = true
is_no_deposit (Some (entry.Claim c)) = true

abbrev pub is_no_payment : Option Entry → Bool
is_no_payment None = false
is_no_payment (Some (entry.Deposit d)) = true
is_no_payment (Some (entry.Payment p)) = false
is_no_payment (Some (entry.Fee f)) = true
is_no_payment (Some (entry.Claim c)) = true

abbrev pub is_no_claim : Option Entry → Bool
is_no_claim None = false
is_no_claim (Some (entry.Deposit d)) = true
is_no_claim (Some (entry.Payment p)) = true
is_no_claim (Some (entry.Fee f)) = true
is_no_claim (Some (entry.Claim c)) = false

abbrev pub is_no_fee : Option Entry → Bool
is_no_fee None = false
is_no_fee (Some e) = not (is_fee e)

abbrev pub is_no_general_claim : Option Entry → Bool
is_no_general_claim None = false
is_no_general_claim (Some e) = not (is_general_claim e)

-- the entry that a fund names is of the wrong kind: it should be a fee, or a claim on the general fund
abbrev pub is_no_fund : Fund → Option Entry → Bool
is_no_fund fund.General other = false
is_no_fund (fund.Fee k) other = is_no_fee other
is_no_fund (fund.Claim k) other = is_no_general_claim other

-- the entry is not of the kind that the ask is about, or the one that it names is of the wrong kind
abbrev pub is_of_another_kind_for : Ask → Option Entry → Option Entry → Bool
is_of_another_kind_for (ask.OpenMatter a) e other = false
is_of_another_kind_for (ask.AddSeat s) e other = false
is_of_another_kind_for (ask.DropSeat p) e other = false
is_of_another_kind_for (ask.Deposit a) e other = false
is_of_another_kind_for (ask.CancelDeposit n) e other = is_no_deposit e
is_of_another_kind_for (ask.Propose a) e other = is_no_fund a.fund other
is_of_another_kind_for (ask.Approve n) e other = is_no_payment e
is_of_another_kind_for (ask.Decline n) e other = is_no_payment e
is_of_another_kind_for (ask.Withdraw n) e other = is_no_payment e
is_of_another_kind_for (ask.VoidPayment n) e other = is_no_payment e
is_of_another_kind_for (ask.EarnFee a) e other = false
is_of_another_kind_for (ask.RaiseClaim a) e other = is_on_fee a.against && is_no_fee other
is_of_another_kind_for (ask.Offer a) e other = is_no_claim e
is_of_another_kind_for (ask.Accept a) e other = is_no_claim e
is_of_another_kind_for (ask.Award a) e other = is_no_claim e
is_of_another_kind_for ask.CloseMatter e other = false
is_of_another_kind_for ask.Purge e other = false
is_of_another_kind_for ask.Show e other = false
is_of_another_kind_for (ask.ShowEntry n) e other = false
is_of_another_kind_for ask.ShowEntries e other = false
is_of_another_kind_for ask.Accounting e other = false
is_of_another_kind_for (ask.Account p) e other = false

abbrev pub is_of_another_kind : Facts → Asked → Bool
is_of_another_kind f a = is_of_another_kind_for a.ask f.entry f.other

abbrev pub is_deposit_not_held : Option Entry → Bool
is_deposit_not_held None = false
is_deposit_not_held (Some (entry.Deposit d)) = not (is_held_state d.state)
is_deposit_not_held (Some (entry.Payment p)) = false
is_deposit_not_held (Some (entry.Fee f)) = false
is_deposit_not_held (Some (entry.Claim c)) = false

abbrev pub is_payment_not_proposed : Option Entry → Bool
is_payment_not_proposed None = false
is_payment_not_proposed (Some (entry.Deposit d)) = false
is_payment_not_proposed (Some (entry.Payment p)) = not (is_proposed_state p.state)
is_payment_not_proposed (Some (entry.Fee f)) = false
is_payment_not_proposed (Some (entry.Claim c)) = false

abbrev pub is_payment_not_issued : Option Entry → Bool
is_payment_not_issued None = false
is_payment_not_issued (Some (entry.Deposit d)) = false
is_payment_not_issued (Some (entry.Payment p)) = not (is_issued_state p.state)
is_payment_not_issued (Some (entry.Fee f)) = false
is_payment_not_issued (Some (entry.Claim c)) = false

abbrev pub is_offered_state : ClaimState → Bool
is_offered_state claim.Open = false
is_offered_state (claim.Offered part) = true
is_offered_state (claim.Settled s) = false

abbrev pub is_claim_settled : Option Entry → Bool
is_claim_settled None = false
is_claim_settled (Some (entry.Deposit d)) = false
is_claim_settled (Some (entry.Payment p)) = false
is_claim_settled (Some (entry.Fee f)) = false
is_claim_settled (Some (entry.Claim c)) = has_settled c.state

abbrev pub is_claim_unsettled : Option Entry → Bool
is_claim_unsettled None = false
is_claim_unsettled (Some (entry.Deposit d)) = false
is_claim_unsettled (Some (entry.Payment p)) = false
is_claim_unsettled (Some (entry.Fee f)) = false
is_claim_unsettled (Some (entry.Claim c)) = not (has_settled c.state)

-- a claim without an offer to the client
abbrev pub is_claim_without_offer : Option Entry → Bool
is_claim_without_offer None = false
is_claim_without_offer (Some (entry.Deposit d)) = false
is_claim_without_offer (Some (entry.Payment p)) = false
is_claim_without_offer (Some (entry.Fee f)) = false
is_claim_without_offer (Some (entry.Claim c)) = not (is_offered_state c.state)

-- the fund is a claim that is not settled yet
abbrev pub is_no_fund_yet : Fund → Option Entry → Bool
is_no_fund_yet fund.General other = false
is_no_fund_yet (fund.Fee k) other = false
is_no_fund_yet (fund.Claim k) other = is_claim_unsettled other

-- the entry, or the one that the ask names, is not in the state that the ask needs
abbrev pub is_in_another_state_for : Ask → Option Entry → Option Entry → Bool
is_in_another_state_for (ask.CancelDeposit n) e other = is_deposit_not_held e
is_in_another_state_for (ask.Propose a) e other = is_no_fund_yet a.fund other
is_in_another_state_for (ask.Approve n) e other = is_payment_not_proposed e
is_in_another_state_for (ask.Decline n) e other = is_payment_not_proposed e
is_in_another_state_for (ask.Withdraw n) e other = is_payment_not_proposed e
is_in_another_state_for (ask.VoidPayment n) e other = is_payment_not_issued e
is_in_another_state_for (ask.Offer a) e other = is_claim_settled e
is_in_another_state_for (ask.Accept a) e other = is_claim_without_offer e
is_in_another_state_for (ask.Award a) e other = is_claim_settled e
is_in_another_state_for _ e other = false

-- the matter is to be purged, but was not closed
abbrev pub is_not_yet_closed_for : Ask → Option Head → Bool
is_not_yet_closed_for ask.Purge head = is_none (closed_on head)
is_not_yet_closed_for _ head = false

abbrev pub is_in_another_state : Facts → Asked → Bool
is_in_another_state f a = is_not_yet_closed_for a.ask f.head || is_in_another_state_for a.ask f.entry f.other

-- Who is paid.

abbrev pub is_cash_claimant : Against → Bool
is_cash_claimant (against.General claimant) = is_cash_label claimant
is_cash_claimant (against.Fee k) = false

abbrev pub is_cash_for : Ask → Bool
is_cash_for (ask.OpenMatter a) = false
is_cash_for (ask.AddSeat s) = false
is_cash_for (ask.DropSeat p) = false
is_cash_for (ask.Deposit a) = false
is_cash_for (ask.CancelDeposit n) = false
is_cash_for (ask.Propose a) = is_cash_label a.payee
is_cash_for (ask.Approve n) = false
is_cash_for (ask.Decline n) = false
is_cash_for (ask.Withdraw n) = false
is_cash_for (ask.VoidPayment n) = false
is_cash_for (ask.EarnFee a) = false
is_cash_for (ask.RaiseClaim a) = is_cash_claimant a.against
is_cash_for (ask.Offer a) = false
is_cash_for (ask.Accept a) = false
is_cash_for (ask.Award a) = false
is_cash_for ask.CloseMatter = false
is_cash_for ask.Purge = false
is_cash_for ask.Show = false
is_cash_for (ask.ShowEntry n) = false
is_cash_for ask.ShowEntries = false
is_cash_for ask.Accounting = false
is_cash_for (ask.Account p) = false

-- the payee or the claimant is cash
abbrev pub is_to_cash : Facts → Asked → Bool
is_to_cash f a = is_cash_for a.ask

abbrev pub is_claimants : Against → List ℕ → Bool
is_claimants (against.General claimant) payee = bytes_eq claimant payee
is_claimants (against.Fee k) payee = false

-- the payee is the claimant
abbrev pub is_claimant_of : Option Entry → List ℕ → Bool
is_claimant_of None payee = false
is_claimant_of (Some (entry.Deposit d)) payee = false
is_claimant_of (Some (entry.Payment p)) payee = false
is_claimant_of (Some (entry.Fee f)) payee = false
is_claimant_of (Some (entry.Claim c)) payee = is_claimants c.against payee

-- the payee is wrong: a fee pays only the firm, a claim only its claimant, and the general fund anyone but the firm
abbrev pub is_wrong_payee_of : Fund → Option Entry → List ℕ → Bool
is_wrong_payee_of fund.General other payee = is_firm_label payee
is_wrong_payee_of (fund.Fee k) other payee = not (is_firm_label payee)
is_wrong_payee_of (fund.Claim k) other payee = not (is_claimant_of other payee)

abbrev pub is_wrong_payee_for : Ask → Option Entry → Bool
is_wrong_payee_for (ask.OpenMatter a) other = false
is_wrong_payee_for (ask.AddSeat s) other = false
is_wrong_payee_for (ask.DropSeat p) other = false
is_wrong_payee_for (ask.Deposit a) other = false
is_wrong_payee_for (ask.CancelDeposit n) other = false
is_wrong_payee_for (ask.Propose a) other = is_wrong_payee_of a.fund other a.payee
is_wrong_payee_for (ask.Approve n) other = false
is_wrong_payee_for (ask.Decline n) other = false
is_wrong_payee_for (ask.Withdraw n) other = false
is_wrong_payee_for (ask.VoidPayment n) other = false
is_wrong_payee_for (ask.EarnFee a) other = false
is_wrong_payee_for (ask.RaiseClaim a) other = false
is_wrong_payee_for (ask.Offer a) other = false
is_wrong_payee_for (ask.Accept a) other = false
is_wrong_payee_for (ask.Award a) other = false
is_wrong_payee_for ask.CloseMatter other = false
is_wrong_payee_for ask.Purge other = false
is_wrong_payee_for ask.Show other = false
is_wrong_payee_for (ask.ShowEntry n) other = false
is_wrong_payee_for ask.ShowEntries other = false
is_wrong_payee_for ask.Accounting other = false
is_wrong_payee_for (ask.Account p) other = false

-- the fund may not pay this payee
abbrev pub is_to_wrong_payee : Facts → Asked → Bool
is_to_wrong_payee f a = is_wrong_payee_for a.ask f.other

-- How much is paid.

abbrev pub exceeds_claim : Option Entry → ℕ → Bool
exceeds_claim None part = false
exceeds_claim (Some (entry.Deposit d)) part = false
exceeds_claim (Some (entry.Payment p)) part = false
exceeds_claim (Some (entry.Fee f)) part = false
exceeds_claim (Some (entry.Claim c)) part = nat_lt c.amount part

abbrev pub is_another_offer : ClaimState → ℕ → Bool
is_another_offer claim.Open part = false
is_another_offer (claim.Offered offered) part = not (offered == part)
is_another_offer (claim.Settled s) part = false

abbrev pub differs_from_offer : Option Entry → ℕ → Bool
differs_from_offer None part = false
differs_from_offer (Some (entry.Deposit d)) part = false
differs_from_offer (Some (entry.Payment p)) part = false
differs_from_offer (Some (entry.Fee f)) part = false
differs_from_offer (Some (entry.Claim c)) part = is_another_offer c.state part

abbrev pub is_bad_split_for : Ask → Option Entry → Bool
is_bad_split_for (ask.Offer a) e = exceeds_claim e a.to_client
is_bad_split_for (ask.Accept a) e = differs_from_offer e a.to_client
is_bad_split_for (ask.Award a) e = exceeds_claim e a.to_client
is_bad_split_for _ e = false

-- the client's part is more than the claim, or not what was offered
abbrev pub is_bad_split : Facts → Asked → Bool
is_bad_split f a = is_bad_split_for a.ask f.entry

abbrev pub against_left : Against → ℤ → ℤ → ℤ
against_left (against.General claimant) available left = available
against_left (against.Fee k) available left = left

abbrev pub payment_left : Option Entry → ℤ → ℤ → ℤ
payment_left None available left = pos 0
payment_left (Some (entry.Deposit d)) available left = pos 0
payment_left (Some (entry.Payment p)) available left = fund_left p.fund available left
payment_left (Some (entry.Fee f)) available left = pos 0
payment_left (Some (entry.Claim c)) available left = pos 0

-- what is left of the fund that the ask draws on
abbrev pub left_for : Ask → Option Entry → ℤ → ℤ → ℤ
left_for (ask.Approve n) e available left = payment_left e available left
left_for (ask.EarnFee a) e available left = available
left_for (ask.RaiseClaim a) e available left = against_left a.against available left
left_for _ e available left = pos 0

abbrev pub is_short_payment : Option Entry → ℤ → ℤ → Bool
is_short_payment None available left = false
is_short_payment (Some (entry.Deposit d)) available left = false
is_short_payment (Some (entry.Payment p)) available left = exceeds p.amount (fund_left p.fund available left)
is_short_payment (Some (entry.Fee f)) available left = false
is_short_payment (Some (entry.Claim c)) available left = false

abbrev pub is_short_for : Ask → Option Entry → ℤ → ℤ → Bool
is_short_for (ask.Approve n) e available left = is_short_payment e available left
is_short_for (ask.EarnFee a) e available left = exceeds a.amount available
is_short_for (ask.RaiseClaim a) e available left = exceeds a.amount (against_left a.against available left)
is_short_for _ e available left = false

-- the amount exceeds what is left of its fund
abbrev pub is_short : Facts → Asked → Bool
is_short f a = is_short_for a.ask f.entry f.available f.left

-- the person to be given a seat already has one
abbrev pub has_a_seat_for : Ask → List Seat → Bool
has_a_seat_for (ask.AddSeat s) seats = is_some (role_in seats s.person)
has_a_seat_for _ seats = false

abbrev pub has_a_seat_already : Facts → Asked → Bool
has_a_seat_already f a = has_a_seat_for a.ask f.seats

-- the person whose seat is to go has none
abbrev pub has_none_for : Ask → List Seat → Bool
has_none_for (ask.DropSeat p) seats = is_none (role_in seats p)
has_none_for _ seats = false

abbrev pub has_none_to_drop : Facts → Asked → Bool
has_none_to_drop f a = has_none_for a.ask f.seats

abbrev pub is_lawyers : Option Role → Bool
is_lawyers None = false
is_lawyers (Some r) = is_lawyer r

-- the seat to go is the only lawyer's
abbrev pub is_last_lawyers : Ask → List Seat → Bool
is_last_lawyers (ask.DropSeat p) seats = is_lawyers (role_in seats p) && not (has_other_lawyer seats p)
is_last_lawyers _ seats = false

abbrev pub would_lose_its_last_lawyer : Facts → Asked → Bool
would_lose_its_last_lawyer f a = is_last_lawyers a.ask f.seats

-- What is left.

abbrev pub is_closing : Ask → Bool
is_closing ask.CloseMatter = true
is_closing _ = false

abbrev pub is_zero : ℤ → Bool
is_zero (pos n) = n == 0
is_zero (negsuc n) = false

-- the matter to be closed has money in its ledger, or a payment proposed or issued
abbrev pub is_not_empty : Facts → Asked → Bool
is_not_empty f a = is_closing a.ask && not (is_zero f.ledger && is_zero f.pending)

-- When a matter may be purged.

-- the first day on which a matter closed on `close` may be purged; 0 if it was not closed
abbrev pub purge_day : Option ℕ → ℕ
purge_day None = 0
purge_day (Some close) = first_purge_day close

-- the matter is to be purged, but its records must still be kept
abbrev pub is_too_early : Facts → Asked → Bool
is_too_early f a = is_purging a.ask && nat_lt a.day (purge_day (closed_on f.head))

-- Whether the ask is a repeat.

-- the entry is a deposit with the fields asked for
abbrev pub is_as_asked : Option Entry → DepositAsk → Bool
is_as_asked (Some (entry.Deposit d)) a =
    d.amount == a.amount && bytes_eq d.source a.source && bytes_eq d.description a.description
is_as_asked _ a = false

-- the entry is a payment with the fields asked for
abbrev pub is_payment_asked : Option Entry → PaymentAsk → Bool
is_payment_asked (Some (entry.Payment p)) a =
    p.amount == a.amount && is_same_fund p.fund a.fund && bytes_eq p.payee a.payee && bytes_eq p.purpose a.purpose
    && bytes_eq p.instrument a.instrument
is_payment_asked _ a = false

-- the entry is a fee with the fields asked for
abbrev pub is_fee_asked : Option Entry → FeeAsk → Bool
is_fee_asked (Some (entry.Fee f)) a = f.amount == a.amount && bytes_eq f.description a.description
is_fee_asked _ a = false

-- the entry is a claim with the fields asked for
abbrev pub is_claim_asked : Option Entry → ClaimAsk → Bool
is_claim_asked (Some (entry.Claim c)) a =
    c.amount == a.amount && is_same_against c.against a.against && bytes_eq c.reason a.reason
is_claim_asked _ a = false

abbrev pub comes_again : Ask → Option Entry → Bool
comes_again (ask.Deposit a) e = is_as_asked e a
comes_again (ask.Propose a) e = is_payment_asked e a
comes_again (ask.EarnFee a) e = is_fee_asked e a
comes_again (ask.RaiseClaim a) e = is_claim_asked e a
comes_again _ e = false

-- the same ask already made the entry with this number
abbrev pub is_repeat : Facts → Asked → Bool
is_repeat f a = comes_again a.ask f.entry
