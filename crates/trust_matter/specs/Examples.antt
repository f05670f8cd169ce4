-- Examples of sound rows: entries of each kind in each state, and a closed matter.
use Rattle.std.specs.Prelude.{◌≡◌, ℕ, List, [], ◌∷◌, Some, None, codes, pos}
use Rattle.matter_rows.specs.declared.head.Holder.TheVariants as holder
use Rattle.matter_rows.specs.declared.seat.Role.TheVariants as role
use Rattle.matter_rows.specs.declared.seat.Seat.{Seat}
use Rattle.matter_rows.specs.declared.payment.Fund.{Fund}
use Rattle.matter_rows.specs.declared.payment.Fund.TheVariants as fund
use Rattle.matter_rows.specs.declared.claim.Against.{Against}
use Rattle.matter_rows.specs.declared.claim.Against.TheVariants as against
use Rattle.matter_rows.specs.declared.clearing.Clearing.{Clearing}
use Rattle.matter_rows.specs.declared.deposit.DepositState.{DepositState}
use Rattle.matter_rows.specs.declared.deposit.DepositState.TheVariants as deposit
use Rattle.matter_rows.specs.declared.payment.PaymentState.{PaymentState}
use Rattle.matter_rows.specs.declared.payment.PaymentState.TheVariants as payment
use Rattle.matter_rows.specs.declared.claim.ClaimState.{ClaimState}
use Rattle.matter_rows.specs.declared.claim.ClaimState.TheVariants as claim
use Rattle.matter_rows.specs.declared.entry.Entry.{Entry}
use Rattle.matter_rows.specs.declared.entry.Entry.TheVariants as entry
use Rattle.matter_rows.specs.Balances.{held, available, disputed, fees, claims, total}
use Rattle.matter_rows.specs.Rows.{Rows}

-- A deposit, a payment, a fee and a claim, of so many cents, made on a day.

abbrev pub received : ℕ → ℕ → DepositState → Entry
received day cents state = entry.Deposit (record {
  book = day;
  amount = cents;
  source = codes "Ada Chen";
  description = codes "retainer";
  state = state;
})

abbrev pub paid : ℕ → ℕ → Fund → PaymentState → Entry
paid day cents fund state = entry.Payment (record {
  book = day;
  amount = cents;
  fund = fund;
  payee = codes "Harbor Clinic";
  purpose = codes "bill";
  instrument = codes "check 1001";
  state = state;
})

abbrev pub earned : ℕ → ℕ → Entry
earned day cents = entry.Fee (record { book = day; amount = cents; description = codes "hearing" })

abbrev pub claimed : ℕ → ℕ → Against → ClaimState → Entry
claimed day cents against state =
    entry.Claim (record { book = day; amount = cents; against = against; reason = codes "lien"; state = state })

abbrev pub told_on : ℕ → Clearing
told_on day = record { bank_day = day; bank_ref = codes "88121" }

abbrev pub seats : List Seat
seats = record { person = codes "ada"; role = role.Client } ∷ record { person = codes "lee"; role = role.Lawyer } ∷ []

-- each kind of entry in each of its states
abbrev pub every_state : List Entry
every_state =
    received 20260105 100000 (deposit.Cleared (told_on 20260106))
    ∷ received 20260105 5000 deposit.Held
    ∷ received 20260106 7000 (deposit.Cancelled 20260107)
    ∷ earned 20260108 30000
    ∷ claimed 20260108 10000 (against.Fee 4) claim.Open
    ∷ claimed 20260108 12000 (against.General (codes "Harbor Clinic")) (claim.Offered 2000)
    ∷ claimed 20260109 20000 (against.General (codes "Harbor Clinic"))
    (claim.Settled (record { day = 20260112; part = 8000 }))
    ∷ claimed 20260109 4000 (against.Fee 4) (claim.Settled (record { day = 20260113; part = 1000 }))
    ∷ paid 20260113 2500 fund.General payment.Proposed
    ∷ paid 20260113 2600 fund.General payment.Declined
    ∷ paid 20260113 1500 fund.General (payment.Issued 20260114)
    ∷ paid 20260114 5000 (fund.Fee 4) (payment.Cleared (record { issued = 20260114; clearing = told_on 20260115 }))
    ∷ paid 20260114 3000 (fund.Claim 7) (payment.Voided (record { issued = 20260114; undone = 20260116 }))
    ∷ received 20260114 9000
    (deposit.Returned (record { clearing = told_on 20260115; returning = told_on 20260113; undone = 20260116 }))
    ∷ []

abbrev pub in_every_state : Rows
in_every_state = record {
  head = Some
      (record { holder = holder.Client (codes "Ada Chen"); opened = 20260105; closed = None; last = 20260116 });
  seats = seats;
  entries = every_state;
}

-- everything cleared is paid out, and no payment is pending
abbrev pub all_paid_out : List Entry
all_paid_out =
    received 20260105 10000 (deposit.Cleared (told_on 20260106))
    ∷ received 20260105 7000 (deposit.Cancelled 20260106)
    ∷ earned 20260107 4000
    ∷ paid 20260107 6000 fund.General (payment.Cleared (record { issued = 20260108; clearing = told_on 20260109 }))
    ∷ paid 20260107 4000 (fund.Fee 3) (payment.Cleared (record { issued = 20260108; clearing = told_on 20260109 }))
    ∷ []

abbrev pub closed_at_rest : Rows
closed_at_rest = record {
  head = Some
      (record {
        holder = holder.Client (codes "Ada Chen");
        opened = 20260105;
        closed = Some 20260112;
        last = 20260112;
      });
  seats = seats;
  entries = all_paid_out;
}

-- the same, before it is closed
abbrev pub at_rest : Rows
at_rest = record {
  head = Some
      (record { holder = holder.Client (codes "Ada Chen"); opened = 20260105; closed = None; last = 20260109 });
  seats = seats;
  entries = all_paid_out;
}

-- a matter whose only entry is a pending payment
abbrev pub waiting : Rows
waiting = record {
  head = Some
      (record { holder = holder.Client (codes "Ada Chen"); opened = 20260105; closed = None; last = 20260109 });
  seats = seats;
  entries = paid 20260107 6000 fund.General payment.Proposed ∷ [];
}

-- the balances of entries, in cents
pub record Balance (es : List Entry) (in_hold to_pay in_dispute of_fees of_claims in_total : ℕ) : Type 0 where
  pub held : held es ≡ pos in_hold
  pub available : available es ≡ pos to_pay
  pub disputed : disputed es ≡ pos in_dispute
  pub fees : fees es ≡ pos of_fees
  pub claims : claims es ≡ pos of_claims
  pub total : total es ≡ pos in_total
