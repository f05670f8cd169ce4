-- What each entry adds to each balance.
use Rattle.std.specs.Prelude.{ℕ, Bool, true, false, ℤ, pos, ◌+ℤ◌, ◌-ℤ◌, ◌==◌, cond, ◌≤ℤ◌, Option, Some, None}
use Rattle.matter_rows.specs.declared.payment.Fund.{Fund}
use Rattle.matter_rows.specs.declared.payment.Fund.TheVariants as fund
use Rattle.matter_rows.specs.declared.deposit.DepositState.{DepositState}
use Rattle.matter_rows.specs.declared.deposit.DepositState.TheVariants as deposit
use Rattle.matter_rows.specs.declared.payment.PaymentState.{PaymentState}
use Rattle.matter_rows.specs.declared.payment.PaymentState.TheVariants as payment
use Rattle.matter_rows.specs.declared.claim.ClaimState.{ClaimState}
use Rattle.matter_rows.specs.declared.claim.ClaimState.TheVariants as claim
use Rattle.matter_rows.specs.declared.claim.Against.{Against}
use Rattle.matter_rows.specs.declared.claim.Against.TheVariants as against
use Rattle.matter_rows.specs.declared.entry.Entry.{Entry}
use Rattle.matter_rows.specs.declared.entry.Entry.TheVariants as entry
use Rattle.matter_rows.specs.declared.shares.Shares.{Shares}

-- a payment counts while issued or cleared
abbrev pub paid : PaymentState → ℕ → ℤ
paid payment.Proposed a = pos 0
paid payment.Declined a = pos 0
paid (payment.Issued day) a = pos a
paid (payment.Cleared c) a = pos a
paid (payment.Voided v) a = pos 0

-- what a claim keeps apart
abbrev pub apart : ClaimState → ℕ → ℤ
apart claim.Open a = pos a
apart (claim.Offered part) a = pos a
apart (claim.Settled s) a = pos 0

-- the client's part, once settled
abbrev pub to_client : ClaimState → ℤ
to_client claim.Open = pos 0
to_client (claim.Offered part) = pos 0
to_client (claim.Settled s) = pos s.part

-- what a claim takes from a fee: all of its amount while open, then the client's part
abbrev pub off_fee : ClaimState → ℕ → ℤ
off_fee s a = apart s a +ℤ to_client s

-- what a claim on the general fund is worth to its claimant
abbrev pub to_claimant : ClaimState → ℕ → ℤ
to_claimant claim.Open a = pos a
to_claimant (claim.Offered part) a = pos a
to_claimant (claim.Settled s) a = pos a -ℤ pos s.part

-- a deposit is held until the bank clears it or it is cancelled
abbrev pub held_deposit : DepositState → ℕ → ℤ
held_deposit deposit.Held a = pos a
held_deposit (deposit.Cleared c) a = pos 0
held_deposit (deposit.Cancelled day) a = pos 0
held_deposit (deposit.Returned r) a = pos 0

-- a deposit is in the account from when it is cleared until it is returned
abbrev pub cleared_deposit : DepositState → ℕ → ℤ
cleared_deposit deposit.Held a = pos 0
cleared_deposit (deposit.Cleared c) a = pos a
cleared_deposit (deposit.Cancelled day) a = pos 0
cleared_deposit (deposit.Returned r) a = pos 0

-- what a payment takes from what is available, from fees, and from claims
abbrev pub from_general : Fund → ℤ → ℤ
from_general fund.General z = z
from_general (fund.Fee k) z = pos 0
from_general (fund.Claim k) z = pos 0

abbrev pub from_fee : Fund → ℤ → ℤ
from_fee fund.General z = pos 0
from_fee (fund.Fee k) z = z
from_fee (fund.Claim k) z = pos 0

abbrev pub from_claim : Fund → ℤ → ℤ
from_claim fund.General z = pos 0
from_claim (fund.Fee k) z = pos 0
from_claim (fund.Claim k) z = z

-- what a claim takes if it is on a fee, and if it is on the general fund
abbrev pub on_fee : Against → ℤ → ℤ
on_fee (against.General c) z = pos 0
on_fee (against.Fee k) z = z

abbrev pub on_general : Against → ℤ → ℤ
on_general (against.General c) z = z
on_general (against.Fee k) z = pos 0

-- what an entry adds to what is held
unfoldable pub held_share : Entry → ℤ
held_share (entry.Deposit d) = held_deposit d.state d.amount
held_share (entry.Payment p) = pos 0
held_share (entry.Fee f) = pos 0
held_share (entry.Claim c) = pos 0

-- what an entry adds to the total: cleared deposits, less payments
unfoldable pub total_share : Entry → ℤ
total_share (entry.Deposit d) = cleared_deposit d.state d.amount
total_share (entry.Payment p) = pos 0 -ℤ paid p.state p.amount
total_share (entry.Fee f) = pos 0
total_share (entry.Claim c) = pos 0

-- what an entry adds to what is available: cleared deposits, less payments from it, fees, and claims on it; a settled
-- claim on a fee brings back the client's part
unfoldable pub available_share : Entry → ℤ
available_share (entry.Deposit d) = cleared_deposit d.state d.amount
available_share (entry.Payment p) = pos 0 -ℤ from_general p.fund (paid p.state p.amount)
available_share (entry.Fee f) = pos 0 -ℤ pos f.amount
available_share (entry.Claim c) =
    on_fee c.against (to_client c.state) -ℤ on_general c.against (to_claimant c.state c.amount)

-- what an entry adds to what is disputed: the amount of an open claim on a fee
unfoldable pub disputed_share : Entry → ℤ
disputed_share (entry.Deposit d) = pos 0
disputed_share (entry.Payment p) = pos 0
disputed_share (entry.Fee f) = pos 0
disputed_share (entry.Claim c) = on_fee c.against (apart c.state c.amount)

-- what a fee, or a claim on the general fund, is worth before other entries draw on it
unfoldable pub worth : Entry → ℤ
worth (entry.Deposit d) = pos 0
worth (entry.Payment p) = pos 0
worth (entry.Fee f) = pos f.amount
worth (entry.Claim c) = on_general c.against (to_claimant c.state c.amount)

-- the number of the entry that an entry draws on, or 0
abbrev pub fund_no : Fund → ℕ
fund_no fund.General = 0
fund_no (fund.Fee k) = k
fund_no (fund.Claim k) = k

abbrev pub against_no : Against → ℕ
against_no (against.General c) = 0
against_no (against.Fee k) = k

abbrev pub target : Entry → ℕ
target (entry.Deposit d) = 0
target (entry.Payment p) = fund_no p.fund
target (entry.Fee f) = 0
target (entry.Claim c) = against_no c.against

-- what an entry draws on the fee or claim that it names: a payment its amount, a claim all of its amount while open,
-- then the client's part
unfoldable pub draw : Entry → ℤ
draw (entry.Deposit d) = pos 0
draw (entry.Payment p) = paid p.state p.amount
draw (entry.Fee f) = pos 0
draw (entry.Claim c) = on_fee c.against (off_fee c.state c.amount)

-- what an entry draws on entry k
abbrev pub draw_on : ℕ → Entry → ℤ
draw_on k e = cond (target e == k) (draw e) (pos 0)

abbrev pub has_settled : ClaimState → Bool
has_settled claim.Open = false
has_settled (claim.Offered part) = false
has_settled (claim.Settled s) = true

-- what an entry adds to the sum of what is left of fees, and of claims on the general fund
unfoldable pub fee_share : Entry → ℤ
fee_share (entry.Deposit d) = pos 0
fee_share (entry.Payment p) = pos 0 -ℤ from_fee p.fund (paid p.state p.amount)
fee_share (entry.Fee f) = pos f.amount
fee_share (entry.Claim c) = pos 0 -ℤ on_fee c.against (off_fee c.state c.amount)

unfoldable pub claim_share : Entry → ℤ
claim_share (entry.Deposit d) = pos 0
claim_share (entry.Payment p) = pos 0 -ℤ from_claim p.fund (paid p.state p.amount)
claim_share (entry.Fee f) = pos 0
claim_share (entry.Claim c) = on_general c.against (to_claimant c.state c.amount)

abbrev pub pending_payment : PaymentState → ℤ
pending_payment payment.Proposed = pos 1
pending_payment payment.Declined = pos 0
pending_payment (payment.Issued day) = pos 1
pending_payment (payment.Cleared c) = pos 0
pending_payment (payment.Voided v) = pos 0

-- 1 for a proposed or issued payment
unfoldable pub pending_share : Entry → ℤ
pending_share (entry.Deposit d) = pos 0
pending_share (entry.Payment p) = pending_payment p.state
pending_share (entry.Fee f) = pos 0
pending_share (entry.Claim c) = pos 0

-- what an entry adds to each total and count
abbrev pub shares_of : Entry → Shares
shares_of e = record {
  held = held_share e;
  available = available_share e;
  disputed = disputed_share e;
  fees = fee_share e;
  claims = claim_share e;
  pending = pending_share e;
}

abbrev pub no_shares : Shares
no_shares = record { held = pos 0; available = pos 0; disputed = pos 0; fees = pos 0; claims = pos 0; pending = pos 0 }

-- an entry adds at most twice the greatest amount to a balance, positive or negative
pub record IsSmallShare (z : ℤ) : Type 0 where
  pub low : pos 0 ≤ℤ (z +ℤ pos 199_999_999_998)
  pub high : z ≤ℤ pos 199_999_999_998

pub record AreSmallShares (s : Shares) : Type 0 where
  pub held : IsSmallShare s.held
  pub available : IsSmallShare s.available
  pub disputed : IsSmallShare s.disputed
  pub fees : IsSmallShare s.fees
  pub claims : IsSmallShare s.claims
  pub pending : IsSmallShare s.pending

-- an entry's number, or 0
abbrev pub number_or_none : Option ℕ → ℕ
number_or_none None = 0
number_or_none (Some n) = n

-- the number of the entry that an entry draws on, or 0
abbrev pub target_in : Option Entry → ℕ
target_in None = 0
target_in (Some e) = target e

-- the most that all entries of a matter add to a balance, positive or negative
pub record IsSmallSum (z : ℤ) : Type 0 where
  pub low : pos 0 ≤ℤ (z +ℤ pos 1_999_800_000_000_000)
  pub high : z ≤ℤ pos 1_999_800_000_000_000

pub record AreSmallSums (s : Shares) : Type 0 where
  pub held : IsSmallSum s.held
  pub available : IsSmallSum s.available
  pub disputed : IsSmallSum s.disputed
  pub fees : IsSmallSum s.fees
  pub claims : IsSmallSum s.claims
  pub pending : IsSmallSum s.pending
