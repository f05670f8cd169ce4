-- What the body of an accepted answer contains: a JSON object, its keys sorted by their bytes.
use Rattle.std.specs.Prelude.{ℕ, ℤ, pos, List, [], ◌∷◌, length, codes, map, Option, Some, None}
use Rattle.serde_json.specs.Data.{Data, null, string}
use Rattle.serde_json.specs.Written.{compact_text}
use Rattle.matter_rows.specs.declared.seat.Seat.{Seat}
use Rattle.matter_rows.specs.declared.head.Head.{Head}
use Rattle.matter_rows.specs.declared.head.Holder.{Holder}
use Rattle.matter_rows.specs.declared.head.Holder.TheVariants as holder
use Rattle.matter_rows.specs.declared.payment.Fund.{Fund}
use Rattle.matter_rows.specs.declared.payment.Fund.TheVariants as fund
use Rattle.matter_rows.specs.declared.claim.Against.{Against}
use Rattle.matter_rows.specs.declared.claim.Against.TheVariants as against
use Rattle.matter_rows.specs.declared.clearing.Clearing.{Clearing}
use Rattle.matter_rows.specs.declared.deposit.DepositState.{DepositState}
use Rattle.matter_rows.specs.declared.deposit.DepositState.TheVariants as deposit
use Rattle.matter_rows.specs.declared.payment.PaymentState.{PaymentState}
use Rattle.matter_rows.specs.declared.payment.PaymentState.TheVariants as payment
use Rattle.matter_rows.specs.declared.claim.ClaimState.{ClaimState}
use Rattle.matter_rows.specs.declared.claim.ClaimState.TheVariants as claim
use Rattle.matter_rows.specs.declared.entry.Entry.{Entry}
use Rattle.matter_rows.specs.declared.entry.Entry.TheVariants as entry
use Rattle.matter_rows.specs.Events.{issued_on, voided_on}
use Rattle.matter_rows.specs.Rows.{Rows, closed_on}
use Rattle.matter_parts.specs.declared.figures.Balances.{Balances}
use Rattle.matter_rows.specs.Balances.{available, claims, disputed, fees, held, total}
use Rattle.json_bodies.specs.Values.{seat_object}
use Rattle.json_bodies.specs.Json.{object_of, array_of, amount_value, sum_value, day_value, matter_value, entry_value, count_value, or_null}

-- ---- a matter

-- the sums in a matter's body
pub record Sums : Type 0 where
  pub available : ℤ
  pub claims : ℤ
  pub disputed : ℤ
  pub fees : ℤ
  pub held : ℤ
  pub total : ℤ

-- the client's label; null for a purged matter
abbrev pub holder_value : Holder → Data
holder_value (holder.Client c) = string c
holder_value (holder.Purged day) = null

abbrev pub client_value : Option Head → Data
client_value head = or_null (λ h. holder_value h.holder) head

abbrev pub opened_value : Option Head → Data
opened_value head = or_null (λ h. day_value h.opened) head

-- a matter with this number, head, seats, count of entries and sums
abbrev pub matter_members : ℕ → Option Head → List Seat → ℕ → Sums → List (List ℕ × Data)
matter_members m head seats entries sums =
    (codes "available", sum_value sums.available)
    ∷ (codes "claims", sum_value sums.claims)
    ∷ (codes "client", client_value head)
    ∷ (codes "closed", or_null day_value (closed_on head))
    ∷ (codes "disputed", sum_value sums.disputed)
    ∷ (codes "entries", count_value entries)
    ∷ (codes "fees", sum_value sums.fees)
    ∷ (codes "held", sum_value sums.held)
    ∷ (codes "matter", matter_value m)
    ∷ (codes "opened", opened_value head)
    ∷ (codes "seats", array_of (map seat_object seats))
    ∷ (codes "total", sum_value sums.total)
    ∷ []

-- the sums added up from the entries
abbrev pub sums_of : List Entry → Sums
sums_of es = record {
  available = available es;
  claims = claims es;
  disputed = disputed es;
  fees = fees es;
  held = held es;
  total = total es;
}

abbrev pub matter_object : ℕ → Rows → Data
matter_object m rows = object_of (matter_members m rows.head rows.seats (length rows.entries) (sums_of rows.entries))

-- the body of a matter
abbrev pub matter_body : ℕ → Rows → List ℕ
matter_body m rows = compact_text (matter_object m rows)

-- the day on which a matter was purged
abbrev pub day_purged : Holder → Option ℕ
day_purged (holder.Client c) = None
day_purged (holder.Purged day) = Some day

abbrev pub purged_on : Option Head → Option ℕ
purged_on None = None
purged_on (Some h) = day_purged h.holder

abbrev pub purge_members : ℕ → Option ℕ → List (List ℕ × Data)
purge_members m day = (codes "matter", matter_value m) ∷ (codes "purged", or_null day_value day) ∷ []

abbrev pub purge_object : ℕ → Rows → Data
purge_object m rows = object_of (purge_members m (purged_on rows.head))

-- what a purged matter's body contains: its number and the day of the purge
abbrev pub purge_body : ℕ → Rows → List ℕ
purge_body m rows = compact_text (purge_object m rows)

-- the sums of given balances
abbrev pub balance_sums : Balances → Sums
balance_sums b = record {
  available = pos b.available;
  claims = pos b.claims;
  disputed = pos b.disputed;
  fees = pos b.fees;
  held = pos b.held;
  total = pos b.total;
}

-- ---- a receipt: what an entry was made with

abbrev pub fund_name : Fund → List ℕ
fund_name fund.General = codes "general"
fund_name (fund.Fee k) = codes "fee"
fund_name (fund.Claim k) = codes "claim"

-- the entry that a payment is paid from, if any
abbrev pub fund_entry : Fund → Option ℕ
fund_entry fund.General = None
fund_entry (fund.Fee k) = Some k
fund_entry (fund.Claim k) = Some k

abbrev pub against_name : Against → List ℕ
against_name (against.General c) = codes "general"
against_name (against.Fee k) = codes "fee"

-- the fee that is claimed, if any
abbrev pub against_entry : Against → Option ℕ
against_entry (against.General c) = None
against_entry (against.Fee k) = Some k

abbrev pub claimant_of : Against → Option (List ℕ)
claimant_of (against.General c) = Some c
claimant_of (against.Fee k) = None

abbrev pub receipt_members : ℕ → ℕ → Entry → List (List ℕ × Data)
receipt_members m n (entry.Deposit d) =
    (codes "amount", amount_value d.amount)
    ∷ (codes "day", day_value d.book)
    ∷ (codes "description", string d.description)
    ∷ (codes "entry", entry_value n)
    ∷ (codes "kind", string (codes "deposit"))
    ∷ (codes "matter", matter_value m)
    ∷ (codes "source", string d.source)
    ∷ []
receipt_members m n (entry.Payment p) =
    (codes "amount", amount_value p.amount)
    ∷ (codes "day", day_value p.book)
    ∷ (codes "entry", entry_value n)
    ∷ (codes "from", string (fund_name p.fund))
    ∷ (codes "instrument", string p.instrument)
    ∷ (codes "kind", string (codes "payment"))
    ∷ (codes "matter", matter_value m)
    ∷ (codes "of", or_null entry_value (fund_entry p.fund))
    ∷ (codes "payee", string p.payee)
    ∷ (codes "purpose", string p.purpose)
    ∷ []
receipt_members m n (entry.Fee f) =
    (codes "amount", amount_value f.amount)
    ∷ (codes "day", day_value f.book)
    ∷ (codes "description", string f.description)
    ∷ (codes "entry", entry_value n)
    ∷ (codes "kind", string (codes "fee"))
    ∷ (codes "matter", matter_value m)
    ∷ []
receipt_members m n (entry.Claim c) =
    (codes "amount", amount_value c.amount)
    ∷ (codes "claimant", or_null string (claimant_of c.against))
    ∷ (codes "day", day_value c.book)
    ∷ (codes "entry", entry_value n)
    ∷ (codes "kind", string (codes "claim"))
    ∷ (codes "matter", matter_value m)
    ∷ (codes "of", or_null entry_value (against_entry c.against))
    ∷ (codes "on", string (against_name c.against))
    ∷ (codes "reason", string c.reason)
    ∷ []

abbrev pub receipt_object : ℕ → ℕ → Entry → Data
receipt_object m n e = object_of (receipt_members m n e)

-- the body of entry n of matter m as it was made
abbrev pub receipt_body : ℕ → ℕ → Entry → List ℕ
receipt_body m n e = compact_text (receipt_object m n e)

-- ---- an entry: its receipt, and what happened to it

abbrev pub deposit_state_name : DepositState → List ℕ
deposit_state_name deposit.Held = codes "held"
deposit_state_name (deposit.Cleared c) = codes "cleared"
deposit_state_name (deposit.Cancelled day) = codes "cancelled"
deposit_state_name (deposit.Returned r) = codes "returned"

-- the bank line that cleared a deposit
abbrev pub deposit_clearing : DepositState → Option Clearing
deposit_clearing deposit.Held = None
deposit_clearing (deposit.Cleared c) = Some c
deposit_clearing (deposit.Cancelled day) = None
deposit_clearing (deposit.Returned r) = Some r.clearing

-- the bank line that took a deposit back
abbrev pub deposit_returning : DepositState → Option Clearing
deposit_returning deposit.Held = None
deposit_returning (deposit.Cleared c) = None
deposit_returning (deposit.Cancelled day) = None
deposit_returning (deposit.Returned r) = Some r.returning

-- the day a deposit was cancelled, or its return was booked
abbrev pub undone_on : DepositState → Option ℕ
undone_on deposit.Held = None
undone_on (deposit.Cleared c) = None
undone_on (deposit.Cancelled day) = Some day
undone_on (deposit.Returned r) = Some r.undone

abbrev pub payment_state_name : PaymentState → List ℕ
payment_state_name payment.Proposed = codes "proposed"
payment_state_name payment.Declined = codes "declined"
payment_state_name (payment.Issued day) = codes "issued"
payment_state_name (payment.Cleared c) = codes "cleared"
payment_state_name (payment.Voided v) = codes "voided"

-- the bank line that cleared a payment
abbrev pub payment_clearing : PaymentState → Option Clearing
payment_clearing payment.Proposed = None
payment_clearing payment.Declined = None
payment_clearing (payment.Issued day) = None
payment_clearing (payment.Cleared c) = Some c.clearing
payment_clearing (payment.Voided v) = None

-- a claim with an offer is still open
abbrev pub claim_state_name : ClaimState → List ℕ
claim_state_name claim.Open = codes "open"
claim_state_name (claim.Offered part) = codes "open"
claim_state_name (claim.Settled s) = codes "settled"

-- the part of a claim that is offered to the client, or that the client got
abbrev pub client_part : ClaimState → Option ℕ
client_part claim.Open = None
client_part (claim.Offered part) = Some part
client_part (claim.Settled s) = Some s.part

-- the day a claim was settled
abbrev pub settled_on : ClaimState → Option ℕ
settled_on claim.Open = None
settled_on (claim.Offered part) = None
settled_on (claim.Settled s) = Some s.day

abbrev pub bank_day_value : Option Clearing → Data
bank_day_value o = or_null (λ c. day_value c.bank_day) o

abbrev pub bank_ref_value : Option Clearing → Data
bank_ref_value o = or_null (λ c. string c.bank_ref) o

-- what is left of a claim on the general fund; null for a claim on a fee, which has nothing of its own
abbrev pub claim_left_value : Against → ℤ → Data
claim_left_value (against.General c) left = sum_value left
claim_left_value (against.Fee k) left = null

-- the entry in its current state; `left` is what is left of it if it is a fee or a claim on the general fund
abbrev pub entry_members : ℕ → ℕ → Entry → ℤ → List (List ℕ × Data)
entry_members m n (entry.Deposit d) left =
    (codes "amount", amount_value d.amount)
    ∷ (codes "bank_day", bank_day_value (deposit_clearing d.state))
    ∷ (codes "bank_ref", bank_ref_value (deposit_clearing d.state))
    ∷ (codes "day", day_value d.book)
    ∷ (codes "description", string d.description)
    ∷ (codes "entry", entry_value n)
    ∷ (codes "kind", string (codes "deposit"))
    ∷ (codes "matter", matter_value m)
    ∷ (codes "return_day", bank_day_value (deposit_returning d.state))
    ∷ (codes "return_ref", bank_ref_value (deposit_returning d.state))
    ∷ (codes "source", string d.source)
    ∷ (codes "state", string (deposit_state_name d.state))
    ∷ (codes "undone", or_null day_value (undone_on d.state))
    ∷ []
entry_members m n (entry.Payment p) left =
    (codes "amount", amount_value p.amount)
    ∷ (codes "bank_day", bank_day_value (payment_clearing p.state))
    ∷ (codes "bank_ref", bank_ref_value (payment_clearing p.state))
    ∷ (codes "day", day_value p.book)
    ∷ (codes "entry", entry_value n)
    ∷ (codes "from", string (fund_name p.fund))
    ∷ (codes "instrument", string p.instrument)
    ∷ (codes "issued", or_null day_value (issued_on p.state))
    ∷ (codes "kind", string (codes "payment"))
    ∷ (codes "matter", matter_value m)
    ∷ (codes "of", or_null entry_value (fund_entry p.fund))
    ∷ (codes "payee", string p.payee)
    ∷ (codes "purpose", string p.purpose)
    ∷ (codes "state", string (payment_state_name p.state))
    ∷ (codes "undone", or_null day_value (voided_on p.state))
    ∷ []
entry_members m n (entry.Fee f) left =
    (codes "amount", amount_value f.amount)
    ∷ (codes "day", day_value f.book)
    ∷ (codes "description", string f.description)
    ∷ (codes "entry", entry_value n)
    ∷ (codes "kind", string (codes "fee"))
    ∷ (codes "left", sum_value left)
    ∷ (codes "matter", matter_value m)
    ∷ []
entry_members m n (entry.Claim c) left =
    (codes "amount", amount_value c.amount)
    ∷ (codes "claimant", or_null string (claimant_of c.against))
    ∷ (codes "day", day_value c.book)
    ∷ (codes "entry", entry_value n)
    ∷ (codes "kind", string (codes "claim"))
    ∷ (codes "left", claim_left_value c.against left)
    ∷ (codes "matter", matter_value m)
    ∷ (codes "of", or_null entry_value (against_entry c.against))
    ∷ (codes "on", string (against_name c.against))
    ∷ (codes "reason", string c.reason)
    ∷ (codes "settled", or_null day_value (settled_on c.state))
    ∷ (codes "state", string (claim_state_name c.state))
    ∷ (codes "to_client", or_null amount_value (client_part c.state))
    ∷ []

abbrev pub entry_object : ℕ → ℕ → Entry → ℤ → Data
entry_object m n e left = object_of (entry_members m n e left)

-- the body of entry n of matter m in its current state
abbrev pub entry_body : ℕ → ℕ → Entry → ℤ → List ℕ
entry_body m n e left = compact_text (entry_object m n e left)

-- ---- an import of a bank statement

-- how many lines were applied, became exceptions or were repeats, how many records could not be read, and the day of
-- the statement's balance
abbrev pub import_members : ℕ → ℕ → ℕ → Option ℕ → ℕ → List (List ℕ × Data)
import_members applied exceptions repeated statement unreadable =
    (codes "applied", count_value applied)
    ∷ (codes "exceptions", count_value exceptions)
    ∷ (codes "repeated", count_value repeated)
    ∷ (codes "statement", or_null day_value statement)
    ∷ (codes "unreadable", count_value unreadable)
    ∷ []

abbrev pub import_object : ℕ → ℕ → ℕ → Option ℕ → ℕ → Data
import_object applied exceptions repeated statement unreadable =
    object_of (import_members applied exceptions repeated statement unreadable)

-- the body of an import
abbrev pub import_body : ℕ → ℕ → ℕ → Option ℕ → ℕ → List ℕ
import_body applied exceptions repeated statement unreadable =
    compact_text (import_object applied exceptions repeated statement unreadable)
