-- The firm's figures as of a day: sums over lists of its rows. "By the day" means on or before it.
use Rattle.std.specs.Prelude.{ℕ, Bool, true, false, not, ◌&&◌, ◌||◌, nat_le, ◌==◌, codes, List, [], ◌∷◌, map, ℤ, pos, ◌+ℤ◌, ◌-ℤ◌, Option, Some, None, find, if◌then◌else◌}
use Rattle.std.specs.List.{filter, flat_map}
use Rattle.std.specs.Option.{option_map}
use Rattle.std.specs.Str.{bytes_eq}
use Rattle.trust_base.specs.declared.line.Line.{Line}
use Rattle.matter_rows.specs.declared.deposit.DepositState.{DepositState}
use Rattle.matter_rows.specs.declared.deposit.DepositState.TheVariants as deposit
use Rattle.matter_rows.specs.declared.payment.PaymentState.{PaymentState}
use Rattle.matter_rows.specs.declared.payment.PaymentState.TheVariants as payment
use Rattle.matter_rows.specs.declared.entry.Entry.{Entry}
use Rattle.matter_rows.specs.declared.entry.Entry.TheVariants as entry
use Rattle.matter_rows.specs.Rows.{entry_amount}
use Rattle.matter_rows.specs.Events.{Event, events_of, issued_on, voided_on}
use Rattle.firm_rows.specs.declared.movement.Movement.{Movement}
use Rattle.firm_rows.specs.declared.ledger.FirmLine.{FirmLine}
use Rattle.firm_rows.specs.declared.ledger.BalanceKind.{BalanceKind}
use Rattle.firm_rows.specs.declared.ledger.BalanceKind.TheVariants as kind
use Rattle.firm_rows.specs.declared.ledger.BalanceRow.{BalanceRow}
use Rattle.firm_figures.specs.declared.figures.ReconciliationFigures.{ReconciliationFigures}
use Rattle.firm_rows.specs.Sums.{sum_of}
use Rattle.firm_rows.specs.Firm.{Row, Firm, entries_among}

-- The entries.

-- the entries of all matters
abbrev pub entries_in : List (ℕ × Row) → List Entry
entries_in joined = entries_among (map (λ p. p.1) joined)

-- there is a day, and it is on or before p
abbrev pub is_by : ℕ → Option ℕ → Bool
is_by p None = false
is_by p (Some day) = nat_le day p

-- a day, if there is one and it is on or before p
abbrev pub day_by : ℕ → Option ℕ → Option ℕ
day_by p day = if is_by p day then day else None

-- a day, unless there is another one
abbrev pub unless : Option ℕ → Option ℕ → Option ℕ
unless day None = day
unless day (Some other) = None

-- the day on which an entry's money was booked: a deposit made, a payment issued
abbrev pub booked_on : Entry → Option ℕ
booked_on (entry.Deposit d) = Some d.book
booked_on (entry.Payment p) = issued_on p.state
booked_on (entry.Fee f) = None
booked_on (entry.Claim c) = None

abbrev pub cancelled_on : DepositState → Option ℕ
cancelled_on deposit.Held = None
cancelled_on (deposit.Cleared c) = None
cancelled_on (deposit.Cancelled day) = Some day
cancelled_on (deposit.Returned r) = None

-- the day on which that was undone: a deposit cancelled, a payment voided; a return undoes nothing, since the bank
-- reported both
abbrev pub undone_on : Entry → Option ℕ
undone_on (entry.Deposit d) = cancelled_on d.state
undone_on (entry.Payment p) = voided_on p.state
undone_on (entry.Fee f) = None
undone_on (entry.Claim c) = None

abbrev pub deposit_returned_on : DepositState → Option ℕ
deposit_returned_on deposit.Held = None
deposit_returned_on (deposit.Cleared c) = None
deposit_returned_on (deposit.Cancelled day) = None
deposit_returned_on (deposit.Returned r) = Some r.undone

-- the day on which the bank's return of a deposit was booked
abbrev pub returned_on : Entry → Option ℕ
returned_on (entry.Deposit d) = deposit_returned_on d.state
returned_on (entry.Payment p) = None
returned_on (entry.Fee f) = None
returned_on (entry.Claim c) = None

abbrev pub deposit_banked_on : DepositState → Option ℕ
deposit_banked_on deposit.Held = None
deposit_banked_on (deposit.Cleared c) = Some c.bank_day
deposit_banked_on (deposit.Cancelled day) = None
deposit_banked_on (deposit.Returned r) = Some r.clearing.bank_day

abbrev pub payment_banked_on : PaymentState → Option ℕ
payment_banked_on payment.Proposed = None
payment_banked_on payment.Declined = None
payment_banked_on (payment.Issued day) = None
payment_banked_on (payment.Cleared c) = Some c.clearing.bank_day
payment_banked_on (payment.Voided v) = None

-- the day of the bank line that cleared the entry
abbrev pub banked_on : Entry → Option ℕ
banked_on (entry.Deposit d) = deposit_banked_on d.state
banked_on (entry.Payment p) = payment_banked_on p.state
banked_on (entry.Fee f) = None
banked_on (entry.Claim c) = None

abbrev pub deposit_back_on : DepositState → Option ℕ
deposit_back_on deposit.Held = None
deposit_back_on (deposit.Cleared c) = None
deposit_back_on (deposit.Cancelled day) = None
deposit_back_on (deposit.Returned r) = Some r.returning.bank_day

-- the day of the bank line that took the entry back
abbrev pub back_on : Entry → Option ℕ
back_on (entry.Deposit d) = deposit_back_on d.state
back_on (entry.Payment p) = None
back_on (entry.Fee f) = None
back_on (entry.Claim c) = None

abbrev pub is_deposit : Entry → Bool
is_deposit (entry.Deposit d) = true
is_deposit (entry.Payment p) = false
is_deposit (entry.Fee f) = false
is_deposit (entry.Claim c) = false

abbrev pub is_payment : Entry → Bool
is_payment (entry.Deposit d) = false
is_payment (entry.Payment p) = true
is_payment (entry.Fee f) = false
is_payment (entry.Claim c) = false

-- booked by p, neither undone nor cleared at the bank by p
abbrev pub is_waiting : ℕ → Entry → Bool
is_waiting p e = is_by p (booked_on e) && (not (is_by p (undone_on e)) && not (is_by p (banked_on e)))

-- at the bank by p, but booked only later
abbrev pub is_banked_early : ℕ → Entry → Bool
is_banked_early p e = is_by p (banked_on e) && not (is_by p (booked_on e))

-- taken back at the bank by p, but booked only later
abbrev pub is_back_early : ℕ → Entry → Bool
is_back_early p e = is_by p (back_on e) && not (is_by p (returned_on e))

abbrev pub is_in_transit : ℕ → Entry → Bool
is_in_transit p e = is_deposit e && is_waiting p e

abbrev pub is_outstanding : ℕ → Entry → Bool
is_outstanding p e = is_payment e && is_waiting p e

-- one of its days, if it passes a test
abbrev pub day_where : (Entry → Bool) → (Entry → Option ℕ) → Entry → Option ℕ
day_where test day e = if test e then day e else None

-- a bank line that cleared an entry or took it back: its day at the bank, the day it was booked, and the signed amount
pub record MatchedLine : Type 0 where
  pub bank : ℕ
  pub book : ℕ
  pub amount : ℤ

abbrev pub deposit_lines : DepositState → ℕ → ℕ → List MatchedLine
deposit_lines deposit.Held book amount = []
deposit_lines (deposit.Cleared c) book amount = record { bank = c.bank_day; book = book; amount = pos amount } ∷ []
deposit_lines (deposit.Cancelled day) book amount = []
deposit_lines (deposit.Returned r) book amount =
    record { bank = r.clearing.bank_day; book = book; amount = pos amount }
    ∷ record { bank = r.returning.bank_day; book = r.undone; amount = pos 0 -ℤ pos amount } ∷ []

abbrev pub payment_lines : PaymentState → ℕ → List MatchedLine
payment_lines payment.Proposed amount = []
payment_lines payment.Declined amount = []
payment_lines (payment.Issued day) amount = []
payment_lines (payment.Cleared c) amount =
    record { bank = c.clearing.bank_day; book = c.issued; amount = pos 0 -ℤ pos amount } ∷ []
payment_lines (payment.Voided v) amount = []

-- the bank lines that cleared an entry and took it back
abbrev pub lines_of : Entry → List MatchedLine
lines_of (entry.Deposit d) = deposit_lines d.state d.book d.amount
lines_of (entry.Payment p) = payment_lines p.state p.amount
lines_of (entry.Fee f) = []
lines_of (entry.Claim c) = []

-- Tests for a day p.

abbrev pub is_event_by : ℕ → Event → Bool
is_event_by p e = nat_le e.day p

abbrev pub is_moved_by : ℕ → Movement → Bool
is_moved_by p v = nat_le v.day p

abbrev pub is_dated_by : ℕ → FirmLine → Bool
is_dated_by p l = nat_le l.date p

abbrev pub is_matched_by : ℕ → MatchedLine → Bool
is_matched_by p l = nat_le l.bank p

-- at the bank by p, but booked only later
abbrev pub is_early : ℕ → MatchedLine → Bool
is_early p l = nat_le l.bank p && not (nat_le l.book p)

-- the reference is OPEN or CLOSE
abbrev pub names_balance : List ℕ → Bool
names_balance reference = bytes_eq reference (codes "OPEN") || bytes_eq reference (codes "CLOSE")

-- an exception dated by p that is not a balance
abbrev pub is_counted : ℕ → Line → Bool
is_counted p l = nat_le l.date p && not (names_balance l.reference)

-- The figures.

-- deposits that are booked but not at the bank yet
abbrev pub transit : ℕ → Firm → ℤ
transit p firm = sum_of (λ e. pos (entry_amount e)) (filter (is_in_transit p) (entries_in firm.rows))

-- payments that are booked but not at the bank yet
abbrev pub outstanding : ℕ → Firm → ℤ
outstanding p firm = sum_of (λ e. pos (entry_amount e)) (filter (is_outstanding p) (entries_in firm.rows))

-- the sum of movements by p
abbrev pub journal : ℕ → Firm → ℤ
journal p firm = sum_of (λ v. v.amount) (filter (is_moved_by p) firm.movements)

-- the sum of the firm's own lines by p
abbrev pub own_by : ℕ → Firm → ℤ
own_by p firm = sum_of (λ l. l.amount) (filter (is_dated_by p) firm.firm_lines)

-- the ledgers of the matters and of the firm by p, computed from the entries and the firm's own lines
abbrev pub ledgers : ℕ → Firm → ℤ
ledgers p firm =
    sum_of (λ e. e.amount) (filter (is_event_by p) (flat_map events_of (entries_in firm.rows))) +ℤ own_by p firm

-- the sum of unmatched lines by p
abbrev pub exceptions : ℕ → Firm → ℤ
exceptions p firm = sum_of (λ l. l.amount) (filter (is_counted p) firm.exceptions)

-- the sum of lines by p that cleared an entry or took one back
abbrev pub matched : ℕ → Firm → ℤ
matched p firm = sum_of (λ l. l.amount) (filter (is_matched_by p) (flat_map lines_of (entries_in firm.rows)))

-- the sum of those that are booked only later; a line of the firm's own has one day, so it is never early
abbrev pub early : ℕ → Firm → ℤ
early p firm = sum_of (λ l. l.amount) (filter (is_early p) (flat_map lines_of (entries_in firm.rows)))

-- the figures as of p, given the bank's closing balance of p
abbrev pub figures : ℕ → ℤ → Firm → ReconciliationFigures
figures p closing firm = record {
  closing = closing;
  transit = transit p firm;
  outstanding = outstanding p firm;
  adjusted = (closing +ℤ transit p firm) -ℤ outstanding p firm;
  journal = journal p firm;
  ledgers = ledgers p firm;
  difference = ((closing +ℤ transit p firm) -ℤ outstanding p firm) -ℤ journal p firm;
  exceptions = exceptions p firm;
  early = early p firm;
  gap = ((closing -ℤ matched p firm) -ℤ own_by p firm) -ℤ exceptions p firm;
}

abbrev pub is_closing : BalanceKind → Bool
is_closing kind.Opening = false
is_closing kind.Closing = true

-- the row is a closing balance of p
abbrev pub is_closing_of : ℕ → BalanceRow → Bool
is_closing_of p row = is_closing row.kind && row.day == p

-- the closing balance of p, if the bank reported one
abbrev pub closing_on : ℕ → List BalanceRow → Option ℤ
closing_on p rows = option_map (λ r. r.amount) (find (is_closing_of p) rows)

-- the figures as of p, if there is a closing balance of p
abbrev pub figures_on : ℕ → Firm → Option ReconciliationFigures
figures_on p firm = option_map (λ closing. figures p closing firm) (closing_on p firm.balances)
