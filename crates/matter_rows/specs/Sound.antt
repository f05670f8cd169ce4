-- What is true of a matter's rows at every moment.
use Rattle.std.specs.Prelude.{◌≡◌, ℕ, ◌≤◌, true, List, [], ◌∷◌, ◌++◌, map, length, pos, ◌≤ℤ◌, Option, Some, None, IsSome}
use Rattle.std.specs.List.{AllByRecursion}
use Rattle.trust_base.specs.Limits.{IsAmount}
use Rattle.matter_rows.specs.declared.head.Head.{Head}
use Rattle.matter_rows.specs.declared.head.Holder.{Holder}
use Rattle.matter_rows.specs.declared.head.Holder.TheVariants as holder
use Rattle.matter_rows.specs.declared.seat.Seat.{Seat}
use Rattle.matter_rows.specs.declared.deposit.DepositState.{DepositState}
use Rattle.matter_rows.specs.declared.deposit.DepositState.TheVariants as deposit
use Rattle.matter_rows.specs.declared.payment.PaymentState.{PaymentState}
use Rattle.matter_rows.specs.declared.payment.PaymentState.TheVariants as payment
use Rattle.matter_rows.specs.declared.claim.ClaimState.{ClaimState}
use Rattle.matter_rows.specs.declared.claim.ClaimState.TheVariants as claim
use Rattle.matter_rows.specs.declared.payment.Fund.{Fund}
use Rattle.matter_rows.specs.declared.payment.Fund.TheVariants as fund
use Rattle.matter_rows.specs.declared.entry.Entry.{Entry}
use Rattle.matter_rows.specs.declared.entry.Entry.TheVariants as entry
use Rattle.matter_rows.specs.Rows.{Rows, entry_at, entry_amount, book_day, comes_before}
use Rattle.matter_rows.specs.Balances.{left_of, available, ledger, pending, names}
use Rattle.trust_base.specs.TheConstants.{MAX_ENTRY}

-- The entries.

-- the client's part, offered or settled
abbrev pub part_of : ClaimState → ℕ
part_of claim.Open = 0
part_of (claim.Offered part) = part
part_of (claim.Settled s) = s.part

-- the client's part of a claim is within its amount
abbrev pub HasPart : Entry → Type 0
HasPart (entry.Deposit d) = Unit {0}
HasPart (entry.Payment p) = Unit {0}
HasPart (entry.Fee f) = Unit {0}
HasPart (entry.Claim c) = part_of c.state ≤ c.amount

-- the entry's amount is in range, and a claim's client part is at most its amount
pub record IsRanged (e : Entry) : Type 0 where
  pub amount : IsAmount (entry_amount e)
  pub part : HasPart e

-- no balance is negative, and every entry named exists and is of the required kind
pub record AreBacked (es : List Entry) : Type 0 where
  pub few : length es ≤ MAX_ENTRY
  pub ranged : AllByRecursion IsRanged es
  pub named : AllByRecursion (λ e. names es e ≡ true) es
  pub available : pos 0 ≤ℤ available es
  pub left : (n : ℕ) (e : Entry) → entry_at es n ≡ Some e → pos 0 ≤ℤ left_of es n e

-- The seats.

-- sorted by person, byte by byte, so that no person occurs twice
abbrev pub AreInOrder : List Seat → Type 0
AreInOrder [] = Unit {0}
AreInOrder (s ∷ ss) = AllByRecursion (λ t. comes_before s.person t.person ≡ true) ss × AreInOrder ss

-- The days.

-- the days on which a deposit changed after it was made, in order
abbrev pub deposit_days : DepositState → List ℕ
deposit_days deposit.Held = []
deposit_days (deposit.Cleared c) = []
deposit_days (deposit.Cancelled day) = day ∷ []
deposit_days (deposit.Returned r) = r.undone ∷ []

abbrev pub payment_days : PaymentState → List ℕ
payment_days payment.Proposed = []
payment_days payment.Declined = []
payment_days (payment.Issued day) = day ∷ []
payment_days (payment.Cleared c) = c.issued ∷ []
payment_days (payment.Voided v) = v.issued ∷ v.undone ∷ []

abbrev pub claim_days : ClaimState → List ℕ
claim_days claim.Open = []
claim_days (claim.Offered part) = []
claim_days (claim.Settled s) = s.day ∷ []

abbrev pub later_days : Entry → List ℕ
later_days (entry.Deposit d) = deposit_days d.state
later_days (entry.Payment p) = payment_days p.state
later_days (entry.Fee f) = []
later_days (entry.Claim c) = claim_days c.state

-- the days of the bank lines that cleared a deposit and took it back
abbrev pub deposit_bank : DepositState → List ℕ
deposit_bank deposit.Held = []
deposit_bank (deposit.Cleared c) = c.bank_day ∷ []
deposit_bank (deposit.Cancelled day) = []
deposit_bank (deposit.Returned r) = r.clearing.bank_day ∷ r.returning.bank_day ∷ []

abbrev pub payment_bank : PaymentState → List ℕ
payment_bank payment.Proposed = []
payment_bank payment.Declined = []
payment_bank (payment.Issued day) = []
payment_bank (payment.Cleared c) = c.clearing.bank_day ∷ []
payment_bank (payment.Voided v) = []

abbrev pub bank_days : Entry → List ℕ
bank_days (entry.Deposit d) = deposit_bank d.state
bank_days (entry.Payment p) = payment_bank p.state
bank_days (entry.Fee f) = []
bank_days (entry.Claim c) = []

-- all days of an entry
unfoldable pub days_of : Entry → List ℕ
days_of e = book_day e ∷ (later_days e ++ bank_days e)

-- no day of the entry is after `day`
abbrev pub IsBy : ℕ → Entry → Type 0
IsBy day e = AllByRecursion (λ d. d ≤ day) (days_of e)

-- no day is before the previous one, and the first is not before `from`
abbrev pub AreRising : ℕ → List ℕ → Type 0
AreRising from [] = Unit {0}
AreRising from (day ∷ days) = (from ≤ day) × AreRising day days

-- a return is booked on or after the bank's day
abbrev pub IsBackInTime : DepositState → Type 0
IsBackInTime deposit.Held = Unit {0}
IsBackInTime (deposit.Cleared c) = Unit {0}
IsBackInTime (deposit.Cancelled day) = Unit {0}
IsBackInTime (deposit.Returned r) = r.returning.bank_day ≤ r.undone

-- an entry's changes are in order of day, and a return is booked on or after the bank's day
abbrev pub IsRising : Entry → Type 0
IsRising (entry.Deposit d) = AreRising d.book (deposit_days d.state) × IsBackInTime d.state
IsRising (entry.Payment p) = AreRising p.book (payment_days p.state)
IsRising (entry.Fee f) = Unit {0}
IsRising (entry.Claim c) = AreRising c.book (claim_days c.state)

-- changes are in order of day, bank days aside, and no day at all is after the last day
pub record AreDated (h : Head) (es : List Entry) : Type 0 where
  pub opened : h.opened ≤ h.last
  pub by_last : AllByRecursion (IsBy h.last) es
  pub made : AreRising h.opened (map book_day es)
  pub changed : AllByRecursion IsRising es

-- The matter.

-- a matter closed on `day`: nothing is left in it, and nothing happened later
pub record IsAtRest (h : Head) (day : ℕ) (es : List Entry) : Type 0 where
  pub empty : ledger es ≡ pos 0
  pub none_waits : pending es ≡ pos 0
  pub by_close : AllByRecursion (IsBy day) es
  pub opened : h.opened ≤ day
  pub last : day ≤ h.last

-- a closed matter is at rest
abbrev pub IsAtRestIfClosed : Head → Option ℕ → List Entry → Type 0
IsAtRestIfClosed h None es = Unit {0}
IsAtRestIfClosed h (Some day) es = IsAtRest h day es

-- a matter never opened has no seats and no entries; an opened one has its days in order and is at rest once closed
abbrev pub IsHeaded : Option Head → List Seat → List Entry → Type 0
IsHeaded None seats es = (seats ≡ []) × (es ≡ [])
IsHeaded (Some h) seats es = AreDated h es × IsAtRestIfClosed h h.closed es

-- a purged matter was closed, has no seats and no entries, and its last day is the day of the purge
abbrev pub IsBare : Holder → Option ℕ → ℕ → List Seat → List Entry → Type 0
IsBare (holder.Client c) closed last seats es = Unit {0}
IsBare (holder.Purged day) closed last seats es = IsSome closed × ((last ≡ day) × ((seats ≡ []) × (es ≡ [])))

-- only the head of a purged matter is left
abbrev pub IsBareIfPurged : Option Head → List Seat → List Entry → Type 0
IsBareIfPurged None seats es = Unit {0}
IsBareIfPurged (Some h) seats es = IsBare h.holder h.closed h.last seats es

-- Rows do not record the order in which entries changed. It shows only in the days: those within one entry, those on
-- which entries were made, and that a claim is settled before it is paid from. The order of two changes on one day is
-- lost.

abbrev pub day_settled : ClaimState → ℕ
day_settled claim.Open = 0
day_settled (claim.Offered part) = 0
day_settled (claim.Settled s) = s.day

-- the day on which a claim was settled, 0 if it is no settled claim
abbrev pub settlement_day : Option Entry → ℕ
settlement_day None = 0
settlement_day (Some (entry.Deposit d)) = 0
settlement_day (Some (entry.Payment p)) = 0
settlement_day (Some (entry.Fee f)) = 0
settlement_day (Some (entry.Claim c)) = day_settled c.state

-- the first day on which a fund may be paid from: for a claim, the day it was settled; otherwise 0
abbrev pub funded_from : List Entry → Fund → ℕ
funded_from es fund.General = 0
funded_from es (fund.Fee k) = 0
funded_from es (fund.Claim k) = settlement_day (entry_at es k)

-- a payment from a claim is booked on or after the day the claim was settled
abbrev pub IsFundedInTime : List Entry → Entry → Type 0
IsFundedInTime es (entry.Deposit d) = Unit {0}
IsFundedInTime es (entry.Payment p) = funded_from es p.fund ≤ p.book
IsFundedInTime es (entry.Fee f) = Unit {0}
IsFundedInTime es (entry.Claim c) = Unit {0}

-- no balance is negative, each person has one seat, days are in order, a closed matter is at rest, only the head of a
-- purged one is left, and no claim is paid from before it was settled
pub record Sound (rows : Rows) : Type 0 where
  pub backed : AreBacked rows.entries
  pub seated : AreInOrder rows.seats
  pub headed : IsHeaded rows.head rows.seats rows.entries
  pub bare : IsBareIfPurged rows.head rows.seats rows.entries
  pub funded : AllByRecursion (IsFundedInTime rows.entries) rows.entries
