-- What the lines of a statement are compared with in a firm's rows.
use Rattle.std.specs.Prelude.{ℕ, ℤ, pos, ◌-ℤ◌, Bool, List, [], ◌∷◌, ◌++◌, map}
use Rattle.std.specs.List.{filter, flat_map}
use Rattle.matter_rows.specs.declared.clearing.Clearing.{Clearing}
use Rattle.matter_rows.specs.declared.deposit.Deposit.{Deposit}
use Rattle.matter_rows.specs.declared.deposit.DepositState.{DepositState}
use Rattle.matter_rows.specs.declared.deposit.DepositState.TheVariants as deposit
use Rattle.matter_rows.specs.declared.payment.Payment.{Payment}
use Rattle.matter_rows.specs.declared.payment.PaymentState.{PaymentState}
use Rattle.matter_rows.specs.declared.payment.PaymentState.TheVariants as payment
use Rattle.matter_rows.specs.declared.entry.Entry.{Entry}
use Rattle.matter_rows.specs.declared.entry.Entry.TheVariants as entry
use Rattle.firm_rows.specs.declared.ledger.FirmLine.{FirmLine}
use Rattle.firm_rows.specs.Firm.{EntryRow, Firm, HeadRow, Row, SeatRow}
use Rattle.statement_csv.specs.References.{reference_text}
use Rattle.statement_lines.specs.Held.{Held}
use Rattle.statement_lines.specs.Waiting.{Waiting, waiting_deposit, waiting_payment}
use Rattle.statement_lines.specs.declared.booking.Booking.{Booking}

-- Entries that wait.

-- a deposit waits while it is held
abbrev pub deposit_waiting : ℕ → ℕ → Deposit → DepositState → List Waiting
deposit_waiting m n d deposit.Held =
    waiting_deposit (reference_text m n) d.amount d.source d.description ∷ []
deposit_waiting m n d (deposit.Cleared c) = []
deposit_waiting m n d (deposit.Cancelled day) = []
deposit_waiting m n d (deposit.Returned r) = []

-- a payment waits while it is issued
abbrev pub payment_waiting : ℕ → ℕ → Payment → PaymentState → List Waiting
payment_waiting m n p payment.Proposed = []
payment_waiting m n p payment.Declined = []
payment_waiting m n p (payment.Issued day) =
    waiting_payment (reference_text m n) p.amount day p.instrument ∷ []
payment_waiting m n p (payment.Cleared c) = []
payment_waiting m n p (payment.Voided v) = []

abbrev pub entry_waiting : ℕ → ℕ → Entry → List Waiting
entry_waiting m n (entry.Deposit d) = deposit_waiting m n d d.state
entry_waiting m n (entry.Payment p) = payment_waiting m n p p.state
entry_waiting m n (entry.Fee f) = []
entry_waiting m n (entry.Claim c) = []

-- the entries that wait in a row of a matter
abbrev pub row_waiting : ℕ × Row → List Waiting
row_waiting (m, HeadRow head) = []
row_waiting (m, SeatRow seat) = []
row_waiting (m, EntryRow n e) = entry_waiting m n e

-- Bank lines that are booked.

abbrev pub booked_by : Clearing → ℤ → Booking
booked_by c amount = record { date = c.bank_day; bank_ref = c.bank_ref; amount = amount }

-- the line that cleared a deposit, and the one that took it back
abbrev pub deposit_bookings : ℕ → DepositState → List Booking
deposit_bookings amount deposit.Held = []
deposit_bookings amount (deposit.Cleared c) = booked_by c (pos amount) ∷ []
deposit_bookings amount (deposit.Cancelled day) = []
deposit_bookings amount (deposit.Returned r) =
    booked_by r.clearing (pos amount) ∷ booked_by r.returning (pos 0 -ℤ pos amount) ∷ []

-- the line that cleared a payment
abbrev pub payment_bookings : ℕ → PaymentState → List Booking
payment_bookings amount payment.Proposed = []
payment_bookings amount payment.Declined = []
payment_bookings amount (payment.Issued day) = []
payment_bookings amount (payment.Cleared c) = booked_by c.clearing (pos 0 -ℤ pos amount) ∷ []
payment_bookings amount (payment.Voided v) = []

abbrev pub entry_bookings : Entry → List Booking
entry_bookings (entry.Deposit d) = deposit_bookings d.amount d.state
entry_bookings (entry.Payment p) = payment_bookings p.amount p.state
entry_bookings (entry.Fee f) = []
entry_bookings (entry.Claim c) = []

-- the bank lines booked in a row of a matter
abbrev pub row_bookings : ℕ × Row → List Booking
row_bookings (m, HeadRow head) = []
row_bookings (m, SeatRow seat) = []
row_bookings (m, EntryRow n e) = entry_bookings e

-- a line of the firm's own
abbrev pub own_booking : FirmLine → Booking
own_booking l = record { date = l.date; bank_ref = l.bank_ref; amount = l.amount }

-- What a firm has.

unfoldable pub held_of : Firm → Held
held_of firm = record {
  waiting = flat_map row_waiting firm.rows;
  bookings = flat_map row_bookings firm.rows ++ map own_booking firm.firm_lines;
}

-- the firm with only the rows of the matters that pass the test
abbrev pub with_matters : (ℕ → Bool) → Firm → Firm
with_matters is_kept firm = record firm { rows = filter (λ p. is_kept p.0) firm.rows }

-- What is collected from rows that are passed one at a time.

abbrev pub none_held : Held
none_held = record { waiting = []; bookings = [] }

abbrev pub with_row : Held → ℕ × Row → Held
with_row held row = record held {
  waiting = held.waiting ++ row_waiting row;
  bookings = held.bookings ++ row_bookings row;
}

abbrev pub with_own_line : Held → FirmLine → Held
with_own_line held l = record held { bookings = held.bookings ++ own_booking l ∷ [] }
