-- Laws about what is left of a fee, and of a claim on the general fund, as sums over the matter's entries.
use Rattle.std.specs.Prelude.{◌≡◌, ℕ, Bool, true, false, not, ◌&&◌, ◌==◌, map, sum, ℤ, pos, ◌-ℤ◌, List, Some}
use Rattle.std.specs.List.{filter}
use Rattle.matter_rows.specs.declared.payment.Fund.{Fund}
use Rattle.matter_rows.specs.declared.payment.Fund.TheVariants as fund
use Rattle.matter_rows.specs.declared.payment.PaymentState.{PaymentState}
use Rattle.matter_rows.specs.declared.payment.PaymentState.TheVariants as payment
use Rattle.matter_rows.specs.declared.claim.Against.{Against}
use Rattle.matter_rows.specs.declared.claim.Against.TheVariants as against
use Rattle.matter_rows.specs.declared.claim.Claim.{Claim}
use Rattle.matter_rows.specs.declared.claim.ClaimState.{ClaimState}
use Rattle.matter_rows.specs.declared.claim.ClaimState.TheVariants as claim
use Rattle.matter_rows.specs.declared.fee.Fee.{Fee}
use Rattle.matter_rows.specs.declared.entry.Entry.{Entry}
use Rattle.matter_rows.specs.declared.entry.Entry.TheVariants as entry
use Rattle.matter_rows.specs.Rows.{Rows, entry_at, entry_amount}
use Rattle.matter_rows.specs.Shares.{has_settled}
use Rattle.matter_rows.specs.Balances.{fee_left, claim_left}
use Rattle.matter_rows.specs.Sound.{Sound, part_of}

-- the payment is issued or cleared
abbrev pub is_paid : PaymentState → Bool
is_paid payment.Proposed = false
is_paid payment.Declined = false
is_paid (payment.Issued day) = true
is_paid (payment.Cleared c) = true
is_paid (payment.Voided v) = false

abbrev pub is_fee_no : ℕ → Fund → Bool
is_fee_no k fund.General = false
is_fee_no k (fund.Fee j) = j == k
is_fee_no k (fund.Claim j) = false

abbrev pub is_claim_no : ℕ → Fund → Bool
is_claim_no k fund.General = false
is_claim_no k (fund.Fee j) = false
is_claim_no k (fund.Claim j) = j == k

-- a payment from fee k, issued or cleared
abbrev pub is_paid_from_fee : ℕ → Entry → Bool
is_paid_from_fee k (entry.Deposit d) = false
is_paid_from_fee k (entry.Payment p) = is_fee_no k p.fund && is_paid p.state
is_paid_from_fee k (entry.Fee f) = false
is_paid_from_fee k (entry.Claim c) = false

-- a payment from claim k, issued or cleared
abbrev pub is_paid_from_claim : ℕ → Entry → Bool
is_paid_from_claim k (entry.Deposit d) = false
is_paid_from_claim k (entry.Payment p) = is_claim_no k p.fund && is_paid p.state
is_paid_from_claim k (entry.Fee f) = false
is_paid_from_claim k (entry.Claim c) = false

abbrev pub is_on_fee_no : ℕ → Against → Bool
is_on_fee_no k (against.General who) = false
is_on_fee_no k (against.Fee j) = j == k

-- an open claim on fee k
abbrev pub is_open_on : ℕ → Entry → Bool
is_open_on k (entry.Deposit d) = false
is_open_on k (entry.Payment p) = false
is_open_on k (entry.Fee f) = false
is_open_on k (entry.Claim c) = is_on_fee_no k c.against && not (has_settled c.state)

-- a settled claim on fee k
abbrev pub is_settled_on : ℕ → Entry → Bool
is_settled_on k (entry.Deposit d) = false
is_settled_on k (entry.Payment p) = false
is_settled_on k (entry.Fee f) = false
is_settled_on k (entry.Claim c) = is_on_fee_no k c.against && has_settled c.state

-- the client's part of a claim
abbrev pub clients_part : Entry → ℕ
clients_part (entry.Deposit d) = 0
clients_part (entry.Payment p) = 0
clients_part (entry.Fee f) = 0
clients_part (entry.Claim c) = part_of c.state

-- the sum of the amounts of the entries that pass a test, and the sum of their client's parts, in cents
abbrev pub amounts_of : (Entry → Bool) → List Entry → ℕ
amounts_of is_so es = sum (map entry_amount (filter is_so es))

abbrev pub parts_of : (Entry → Bool) → List Entry → ℕ
parts_of is_so es = sum (map clients_part (filter is_so es))

-- a fee's amount, less open claims on it, less the client's parts of settled ones, less payments from it
abbrev pub fee_rest : List Entry → ℕ → Fee → ℤ
fee_rest es k f =
    ((pos f.amount -ℤ pos (amounts_of (is_open_on k) es)) -ℤ pos (parts_of (is_settled_on k) es))
    -ℤ pos (amounts_of (is_paid_from_fee k) es)

-- what is left of fee k, in sound rows
abbrev pub FeeLeft : Type 0
FeeLeft =
    (rows : Rows) (k : ℕ) (f : Fee) → Sound rows → entry_at rows.entries k ≡ Some (entry.Fee f)
    → fee_left rows.entries k ≡ Some (fee_rest rows.entries k f)

-- a claim's amount while open; once settled, without the client's part and what is paid from it
abbrev pub claim_rest : List Entry → ℕ → ℕ → ClaimState → ℤ
claim_rest es k amount claim.Open = pos amount
claim_rest es k amount (claim.Offered part) = pos amount
claim_rest es k amount (claim.Settled s) = (pos amount -ℤ pos s.part) -ℤ pos (amounts_of (is_paid_from_claim k) es)

-- what is left of claim k on the general fund, in sound rows
abbrev pub ClaimLeft : Type 0
ClaimLeft =
    (rows : Rows) (k : ℕ) (c : Claim) (who : List ℕ) → Sound rows → entry_at rows.entries k ≡ Some (entry.Claim c)
    → c.against ≡ against.General who → claim_left rows.entries k ≡ Some (claim_rest rows.entries k c.amount c.state)
