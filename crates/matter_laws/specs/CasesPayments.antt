-- Worked cases of payments: the asks, and the rows after them.
use Rattle.std.specs.Prelude.{ℕ, List, [], ◌∷◌, ◌++◌, Some, None, codes}
use Rattle.matter_rows.specs.declared.head.Holder.TheVariants as holder
use Rattle.matter_rows.specs.declared.payment.Fund.{Fund}
use Rattle.matter_rows.specs.declared.payment.Fund.TheVariants as fund
use Rattle.matter_rows.specs.declared.claim.Against.TheVariants as against
use Rattle.matter_rows.specs.declared.deposit.DepositState.TheVariants as deposit
use Rattle.matter_rows.specs.declared.payment.PaymentState.{PaymentState}
use Rattle.matter_rows.specs.declared.payment.PaymentState.TheVariants as payment
use Rattle.matter_rows.specs.declared.claim.ClaimState.{ClaimState}
use Rattle.matter_rows.specs.declared.claim.ClaimState.TheVariants as claim
use Rattle.matter_rows.specs.declared.entry.Entry.{Entry}
use Rattle.matter_rows.specs.declared.entry.Entry.TheVariants as entry
use Rattle.matter_rows.specs.Rows.{Rows}
use Rattle.trust_matter.specs.declared.ask.Ask.{Ask}
use Rattle.trust_matter.specs.declared.ask.Ask.TheVariants as ask
use Rattle.trust_matter.specs.Examples.{received, earned, claimed, told_on, seats}

-- What is asked.

abbrev pub wednesday : ℕ
wednesday = 20240110

abbrev pub friday : ℕ
friday = 20240112

abbrev pub next_monday : ℕ
next_monday = 20240115

abbrev pub clerk : List ℕ
clerk = codes "Court Clerk"

abbrev pub firm : List ℕ
firm = codes "FIRM"

abbrev pub clinic : List ℕ
clinic = codes "Harbor Clinic"

abbrev pub cash : List ℕ
cash = codes " Cash "

abbrev pub cash_company : List ℕ
cash_company = codes "Cash Ltd"

-- a payment by check, as entry `number`, of so many cents, from a fund to a payee
abbrev pub check_for : ℕ → ℕ → Fund → List ℕ → Ask
check_for number cents fund payee = ask.Propose (record {
  number = number;
  amount = cents;
  fund = fund;
  payee = payee;
  purpose = codes "filing";
  instrument = codes "1001";
})

-- The rows.

-- the same payment, booked on Friday, in some state
abbrev pub check_in : ℕ → Fund → List ℕ → PaymentState → Entry
check_in cents fund payee state = entry.Payment (record {
  book = friday;
  amount = cents;
  fund = fund;
  payee = payee;
  purpose = codes "filing";
  instrument = codes "1001";
  state = state;
})

-- a matter opened on Wednesday, last changed on `last`
abbrev pub with_entries : ℕ → List Entry → Rows
with_entries last es = record {
  head = Some (record { holder = holder.Client (codes "Ada Chen"); opened = wednesday; closed = None; last = last });
  seats = seats;
  entries = es;
}

-- a held deposit of 500.00, and one that the bank cleared on Friday
abbrev pub held_deposit : List Entry
held_deposit = received wednesday 50000 deposit.Held ∷ []

abbrev pub cleared_deposit : List Entry
cleared_deposit = received wednesday 50000 (deposit.Cleared (told_on friday)) ∷ []

abbrev pub uncovered : Rows
uncovered = with_entries wednesday held_deposit

abbrev pub uncovered_with_check : Rows
uncovered_with_check = with_entries friday (held_deposit ++ check_in 10000 fund.General clerk payment.Proposed ∷ [])

abbrev pub covered : Rows
covered = with_entries friday cleared_deposit

-- with a check for 100.00 to some payee, and to the clerk
abbrev pub covered_with_check_to : List ℕ → ℕ → PaymentState → Rows
covered_with_check_to payee last state =
    with_entries last (cleared_deposit ++ check_in 10000 fund.General payee state ∷ [])

abbrev pub covered_with_check : ℕ → PaymentState → Rows
covered_with_check last state = covered_with_check_to clerk last state

-- a fee of 200.00 with 50.00 of it claimed, and the clinic's claim of 100.00 in some state
abbrev pub set_apart : ClaimState → List Entry
set_apart state =
    cleared_deposit ++ earned friday 20000 ∷ claimed friday 5000 (against.Fee 2) claim.Open
    ∷ claimed friday 10000 (against.General clinic) state ∷ []

abbrev pub unsettled : Rows
unsettled = with_entries friday (set_apart claim.Open)

-- with 40.00 of the clinic's claim gone to the client
abbrev pub settled : List Entry
settled = set_apart (claim.Settled (record { day = friday; part = 4000 }))

abbrev pub settled_rows : Rows
settled_rows = with_entries friday settled

-- with a check for so many cents from a fund to a payee
abbrev pub settled_with_check : ℕ → Fund → List ℕ → PaymentState → Rows
settled_with_check cents fund payee state = with_entries friday (settled ++ check_in cents fund payee state ∷ [])
