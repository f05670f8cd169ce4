-- Worked cases of fees and claims: the rows after them.
use Rattle.std.specs.Prelude.{ℕ, List, [], ◌∷◌, Some, codes}
use Rattle.matter_rows.specs.declared.claim.Against.{Against}
use Rattle.matter_rows.specs.declared.claim.Against.TheVariants as against
use Rattle.matter_rows.specs.declared.deposit.DepositState.TheVariants as deposit
use Rattle.matter_rows.specs.declared.claim.ClaimState.{ClaimState}
use Rattle.matter_rows.specs.declared.claim.ClaimState.TheVariants as claim
use Rattle.matter_rows.specs.declared.payment.Fund.{Fund}
use Rattle.matter_rows.specs.declared.payment.Fund.TheVariants as fund
use Rattle.matter_rows.specs.declared.payment.PaymentState.{PaymentState}
use Rattle.matter_rows.specs.declared.payment.PaymentState.TheVariants as payment
use Rattle.matter_rows.specs.declared.entry.Entry.{Entry}
use Rattle.matter_rows.specs.declared.entry.Entry.TheVariants as entry
use Rattle.matter_rows.specs.Rows.{Rows}
use Rattle.trust_matter.specs.declared.ask.Ask.{Ask}
use Rattle.trust_matter.specs.declared.ask.Ask.TheVariants as ask
use Rattle.matter_laws.specs.Cases.{monday, tuesday, head_seen_on, seat_of_ada, seat_of_lee, retainer_in}

-- What is asked, in cents.

abbrev pub fee_asked : ℕ → ℕ → Ask
fee_asked number cents = ask.EarnFee (record { number = number; amount = cents; description = codes "hearing" })

abbrev pub claim_asked : ℕ → ℕ → Against → Ask
claim_asked number cents on =
    ask.RaiseClaim (record { number = number; amount = cents; against = on; reason = codes "work not done" })

abbrev pub offer_asked : ℕ → ℕ → Ask
offer_asked number cents = ask.Offer (record { number = number; to_client = cents })

abbrev pub accept_asked : ℕ → ℕ → Ask
accept_asked number cents = ask.Accept (record { number = number; to_client = cents })

abbrev pub award_asked : ℕ → ℕ → Ask
award_asked number cents = ask.Award (record { number = number; to_client = cents })

abbrev pub payment_asked : ℕ → ℕ → Fund → List ℕ → Ask
payment_asked number cents from payee = ask.Propose (record {
  number = number;
  amount = cents;
  fund = from;
  payee = payee;
  purpose = codes "as agreed";
  instrument = codes "1001";
})

abbrev pub the_firm : List ℕ
the_firm = codes "FIRM"

abbrev pub the_client : List ℕ
the_client = codes "Ada Chen"

abbrev pub roof_builders : List ℕ
roof_builders = codes "Roof Builders"

abbrev pub roofers : Against
roofers = against.General roof_builders

abbrev pub in_cash : Against
in_cash = against.General (codes "cash")

-- The rows.

-- the matter of ada and lee, with the retainer of 500.00 cleared, last changed on `day`, and with more entries
abbrev pub cleared_and : ℕ → List Entry → Rows
cleared_and day more = record {
  head = Some (head_seen_on day);
  seats = seat_of_ada ∷ seat_of_lee ∷ [];
  entries = retainer_in (deposit.Cleared (record { bank_day = monday; bank_ref = codes "B1" })) ∷ more;
}

abbrev pub cleared_for_ada : Rows
cleared_for_ada = cleared_and monday []

-- a fee of 200.00, earned on Tuesday
abbrev pub hearing_fee : Entry
hearing_fee = entry.Fee (record { book = tuesday; amount = 20000; description = codes "hearing" })

abbrev pub fee_earned : Rows
fee_earned = cleared_and tuesday (hearing_fee ∷ [])

-- a claim of 50.00 on the fee, in some state
abbrev pub fee_claim : ClaimState → Entry
fee_claim state = entry.Claim (record {
  book = tuesday;
  amount = 5000;
  against = against.Fee 2;
  reason = codes "work not done";
  state = state;
})

abbrev pub fee_disputed : ClaimState → Rows
fee_disputed state = cleared_and tuesday (hearing_fee ∷ fee_claim state ∷ [])

-- a claim of 120.00 on what is available, in some state
abbrev pub roof_claim : ClaimState → Entry
roof_claim state = entry.Claim (record {
  book = tuesday;
  amount = 12000;
  against = roofers;
  reason = codes "work not done";
  state = state;
})

abbrev pub roof_claimed : ClaimState → Rows
roof_claimed state = cleared_and tuesday (roof_claim state ∷ [])

abbrev pub settled_with : ℕ → ClaimState
settled_with cents = claim.Settled (record { day = tuesday; part = cents })

-- a payment in some state
abbrev pub paid_from : Fund → ℕ → List ℕ → PaymentState → Entry
paid_from from cents payee state = entry.Payment (record {
  book = tuesday;
  amount = cents;
  fund = from;
  payee = payee;
  purpose = codes "as agreed";
  instrument = codes "1001";
  state = state;
})

-- a payment of 160.00 from the fee to the firm
abbrev pub firm_paid : ClaimState → PaymentState → Rows
firm_paid dispute state =
    cleared_and tuesday (hearing_fee ∷ fee_claim dispute ∷ paid_from (fund.Fee 2) 16000 the_firm state ∷ [])

-- a payment of 100.00 from the settled claim to the claimant
abbrev pub roof_paid : PaymentState → Rows
roof_paid state =
    cleared_and tuesday (roof_claim (settled_with 2000) ∷ paid_from (fund.Claim 2) 10000 roof_builders state ∷ [])

abbrev pub voided_at_once : PaymentState
voided_at_once = payment.Voided (record { issued = tuesday; undone = tuesday })
