-- The balances of a matter, added up from its entries.
use Rattle.std.specs.Prelude.{ℕ, Bool, true, false, List, [], ◌∷◌, ℤ, pos, ◌+ℤ◌, ◌-ℤ◌, ◌+◌, cond, Option, Some, None, ◌&&◌, nat_lt, negsuc}
use Rattle.matter_rows.specs.declared.payment.Fund.{Fund}
use Rattle.matter_rows.specs.declared.payment.Fund.TheVariants as fund
use Rattle.matter_rows.specs.declared.claim.Against.{Against}
use Rattle.matter_rows.specs.declared.claim.Against.TheVariants as against
use Rattle.matter_rows.specs.declared.entry.Entry.{Entry}
use Rattle.matter_rows.specs.declared.entry.Entry.TheVariants as entry
use Rattle.matter_rows.specs.Rows.{entry_at}
use Rattle.matter_rows.specs.Shares.{held_share, total_share, available_share, disputed_share, pending_share, worth, draw_on, has_settled}

-- the sum of what all entries add to one balance
abbrev pub total_of : (Entry → ℤ) → List Entry → ℤ
total_of share [] = pos 0
total_of share (e ∷ es) = share e +ℤ total_of share es

-- deposits that no bank line has cleared yet
abbrev pub held : List Entry → ℤ
held es = total_of held_share es

-- cleared deposits less payments issued or cleared; the money of an issued payment may still be at the bank
abbrev pub total : List Entry → ℤ
total es = total_of total_share es

-- the client's ledger
abbrev pub ledger : List Entry → ℤ
ledger es = total es +ℤ held es

-- how many payments are proposed or issued
abbrev pub pending : List Entry → ℤ
pending es = total_of pending_share es

-- what no fee and no claim has a right to: cleared deposits and what clients got back of disputed fees, less payments
-- from it, fees, and claims on it
abbrev pub available : List Entry → ℤ
available es = total_of available_share es

-- the part of fees that open claims keep apart
abbrev pub disputed : List Entry → ℤ
disputed es = total_of disputed_share es

-- what is left of a fee, or of a claim on the general fund: its worth, less what other entries draw on it
abbrev pub left_of : List Entry → ℕ → Entry → ℤ
left_of es n e = worth e -ℤ total_of (draw_on n) es

abbrev pub is_fee : Entry → Bool
is_fee (entry.Deposit d) = false
is_fee (entry.Payment p) = false
is_fee (entry.Fee f) = true
is_fee (entry.Claim c) = false

abbrev pub is_general : Against → Bool
is_general (against.General c) = true
is_general (against.Fee k) = false

abbrev pub is_general_claim : Entry → Bool
is_general_claim (entry.Deposit d) = false
is_general_claim (entry.Payment p) = false
is_general_claim (entry.Fee f) = false
is_general_claim (entry.Claim c) = is_general c.against

-- what is left of entry n, if it is of this kind
abbrev pub left_at : (Entry → Bool) → List Entry → ℕ → Option Entry → Option ℤ
left_at kind es n None = None
left_at kind es n (Some e) = cond (kind e) (Some (left_of es n e)) None

-- what is left of fee n
abbrev pub fee_left : List Entry → ℕ → Option ℤ
fee_left es n = left_at is_fee es n (entry_at es n)

-- what is left of claim n on the general fund
abbrev pub claim_left : List Entry → ℕ → Option ℤ
claim_left es n = left_at is_general_claim es n (entry_at es n)

-- what is left of the entries of a kind in `some`, which are those of `es` from number n on
abbrev pub lefts_from : (Entry → Bool) → List Entry → ℕ → List Entry → ℤ
lefts_from kind es n [] = pos 0
lefts_from kind es n (e ∷ some) = cond (kind e) (left_of es n e) (pos 0) +ℤ lefts_from kind es (n + 1) some

-- what is left of all fees
abbrev pub fees : List Entry → ℤ
fees es = lefts_from is_fee es 1 es

-- what is left of all claims on the general fund
abbrev pub claims : List Entry → ℤ
claims es = lefts_from is_general_claim es 1 es

abbrev pub is_settled : Entry → Bool
is_settled (entry.Deposit d) = false
is_settled (entry.Payment p) = false
is_settled (entry.Fee f) = false
is_settled (entry.Claim c) = is_general c.against && has_settled c.state

abbrev pub passes : (Entry → Bool) → Option Entry → Bool
passes kind None = false
passes kind (Some e) = kind e

-- the fee or settled claim that a fund names exists
abbrev pub funds : List Entry → Fund → Bool
funds es fund.General = true
funds es (fund.Fee k) = passes is_fee (entry_at es k)
funds es (fund.Claim k) = passes is_settled (entry_at es k)

abbrev pub is_against : List Entry → Against → Bool
is_against es (against.General c) = true
is_against es (against.Fee k) = passes is_fee (entry_at es k)

-- every entry that this one names exists and is of the required kind
unfoldable pub names : List Entry → Entry → Bool
names es (entry.Deposit d) = true
names es (entry.Payment p) = funds es p.fund
names es (entry.Fee f) = true
names es (entry.Claim c) = is_against es c.against

-- the amount exceeds what is left
abbrev pub exceeds : ℕ → ℤ → Bool
exceeds amount (pos n) = nat_lt n amount
exceeds amount (negsuc n) = true

-- what is left of a fund: what is available, or what is left of the fee or claim
abbrev pub fund_left : Fund → ℤ → ℤ → ℤ
fund_left fund.General available left = available
fund_left (fund.Fee k) available left = left
fund_left (fund.Claim k) available left = left

-- what is left of an entry, or 0 if it does not exist
abbrev pub left_in : List Entry → ℕ → Option Entry → ℤ
left_in es n None = pos 0
left_in es n (Some e) = left_of es n e
