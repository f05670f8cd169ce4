-- What a bank line means for an entry: whether it clears it, takes it back, or already did so.
use Rattle.std.specs.Prelude.{ℕ, Bool, true, false, ◌&&◌, ◌||◌, ◌==◌, ℤ, pos, ◌-ℤ◌, Option, Some, None}
use Rattle.std.specs.Ordering.{int_eq}
use Rattle.std.specs.Str.{bytes_eq}
use Rattle.trust_base.specs.declared.line.Line.{Line}
use Rattle.matter_rows.specs.declared.clearing.Clearing.{Clearing}
use Rattle.matter_rows.specs.declared.deposit.Deposit.{Deposit}
use Rattle.matter_rows.specs.declared.deposit.DepositState.{DepositState}
use Rattle.matter_rows.specs.declared.deposit.DepositState.TheVariants as deposit
use Rattle.matter_rows.specs.declared.payment.PaymentState.{PaymentState}
use Rattle.matter_rows.specs.declared.payment.PaymentState.TheVariants as payment
use Rattle.matter_rows.specs.declared.entry.Entry.{Entry}
use Rattle.matter_rows.specs.declared.entry.Entry.TheVariants as entry

-- What a line means for the entry that it names.

-- the amount of the line that clears an entry: positive for a deposit, negative for a payment
abbrev pub cleared_amount : Entry → ℤ
cleared_amount (entry.Deposit d) = pos d.amount
cleared_amount (entry.Payment p) = pos 0 -ℤ pos p.amount
cleared_amount (entry.Fee f) = pos 0
cleared_amount (entry.Claim c) = pos 0

abbrev pub has_its_amount : Entry → Line → Bool
has_its_amount e line = int_eq (cleared_amount e) line.amount

-- the line has the amount that takes a deposit back
abbrev pub has_amount_back : Deposit → Line → Bool
has_amount_back d line = int_eq (pos 0 -ℤ pos d.amount) line.amount

-- the line's date and bank reference
abbrev pub clearing_by : Line → Clearing
clearing_by line = record { bank_day = line.date; bank_ref = line.bank_ref }

-- Whether a line is a repeat.

abbrev pub is_clearing_by : Clearing → Line → Bool
is_clearing_by c line = c.bank_day == line.date && bytes_eq c.bank_ref line.bank_ref

abbrev pub is_deposit_cleared_by : DepositState → Line → Bool
is_deposit_cleared_by deposit.Held line = false
is_deposit_cleared_by (deposit.Cleared c) line = is_clearing_by c line
is_deposit_cleared_by (deposit.Cancelled day) line = false
is_deposit_cleared_by (deposit.Returned r) line = is_clearing_by r.clearing line

abbrev pub is_deposit_returned_by : DepositState → Line → Bool
is_deposit_returned_by deposit.Held line = false
is_deposit_returned_by (deposit.Cleared c) line = false
is_deposit_returned_by (deposit.Cancelled day) line = false
is_deposit_returned_by (deposit.Returned r) line = is_clearing_by r.returning line

abbrev pub is_payment_cleared_by : PaymentState → Line → Bool
is_payment_cleared_by payment.Proposed line = false
is_payment_cleared_by payment.Declined line = false
is_payment_cleared_by (payment.Issued day) line = false
is_payment_cleared_by (payment.Cleared c) line = is_clearing_by c.clearing line
is_payment_cleared_by (payment.Voided v) line = false

-- this line already cleared the entry, or took the deposit back: its date, bank reference and amount are on record
abbrev pub is_line_again : Option Entry → Line → Bool
is_line_again None line = false
is_line_again (Some (entry.Deposit d)) line =
    (is_deposit_cleared_by d.state line && has_its_amount (entry.Deposit d) line)
    || (is_deposit_returned_by d.state line && has_amount_back d line)
is_line_again (Some (entry.Payment p)) line =
    is_payment_cleared_by p.state line && has_its_amount (entry.Payment p) line
is_line_again (Some (entry.Fee f)) line = false
is_line_again (Some (entry.Claim c)) line = false

abbrev pub is_cleared_state : DepositState → Bool
is_cleared_state deposit.Held = false
is_cleared_state (deposit.Cleared c) = true
is_cleared_state (deposit.Cancelled day) = false
is_cleared_state (deposit.Returned r) = false

-- the line takes back a cleared deposit
abbrev pub is_return : Option Entry → Line → Bool
is_return None line = false
is_return (Some (entry.Deposit d)) line = is_cleared_state d.state && has_amount_back d line
is_return (Some (entry.Payment p)) line = false
is_return (Some (entry.Fee f)) line = false
is_return (Some (entry.Claim c)) line = false

-- What changes.

-- an issued payment is cleared, and keeps the day of its issue
abbrev pub cleared_payment : Line → PaymentState → PaymentState
cleared_payment line payment.Proposed = payment.Proposed
cleared_payment line payment.Declined = payment.Declined
cleared_payment line (payment.Issued day) = payment.Cleared (record { issued = day; clearing = clearing_by line })
cleared_payment line (payment.Cleared c) = payment.Cleared c
cleared_payment line (payment.Voided v) = payment.Voided v

-- a held deposit is cleared; a cleared one is returned on the business day
abbrev pub deposit_by : Line → ℕ → DepositState → DepositState
deposit_by line today deposit.Held = deposit.Cleared (clearing_by line)
deposit_by line today (deposit.Cleared c) =
    deposit.Returned (record { clearing = c; returning = clearing_by line; undone = today })
deposit_by line today (deposit.Cancelled day) = deposit.Cancelled day
deposit_by line today (deposit.Returned r) = deposit.Returned r
