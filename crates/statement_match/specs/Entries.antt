-- The deposits and payments in a firm's rows, in any state.
use Rattle.std.specs.Prelude.{ℕ, List, [], ◌∷◌, ◌++◌, Option, Some, None}
use Rattle.std.specs.List.{flat_map}
use Rattle.trust_base.specs.declared.line.Line.{Line}
use Rattle.matter_rows.specs.declared.deposit.Deposit.{Deposit}
use Rattle.matter_rows.specs.declared.deposit.DepositState.{DepositState}
use Rattle.matter_rows.specs.declared.deposit.DepositState.TheVariants as deposit
use Rattle.matter_rows.specs.declared.payment.Payment.{Payment}
use Rattle.matter_rows.specs.declared.payment.PaymentState.{PaymentState}
use Rattle.matter_rows.specs.declared.payment.PaymentState.TheVariants as payment
use Rattle.matter_rows.specs.declared.entry.Entry.{Entry}
use Rattle.matter_rows.specs.declared.entry.Entry.TheVariants as entry
use Rattle.firm_rows.specs.declared.ledger.FirmLine.{FirmLine}
use Rattle.firm_rows.specs.Firm.{EntryRow, Firm, HeadRow, Row, SeatRow}
use Rattle.statement_csv.specs.References.{reference_text}
use Rattle.statement_lines.specs.Waiting.{Waiting, waiting_deposit, waiting_payment}
use Rattle.statement_lines.specs.Known.{Known}
use Rattle.statement_lines.specs.declared.booking.Booking.{Booking}
use Rattle.statement_lines.specs.declared.book_entry.BookEntry.{BookEntry}
use Rattle.statement_lines.specs.declared.book_entry.EntryState.{EntryState}
use Rattle.statement_lines.specs.declared.book_entry.EntryState.TheVariants as state
use Rattle.statement_match.specs.Books.{deposit_bookings, held_of, none_held, payment_bookings, with_own_line}
use Rattle.statement_match.specs.Books.{with_row}

-- An entry as lines are compared with it, with its state, the day of the state, the bank's reference of the line that
-- reported it, its source or payee, and the bank lines that are booked for it.

abbrev pub book_entry : Waiting → EntryState → ℕ → Option (List ℕ) → List ℕ → List Booking → BookEntry
book_entry w s day bank_ref party bookings = record {
  entry = w;
  state = s;
  day = day;
  bank_ref = bank_ref;
  party = party;
  bookings = bookings;
}

abbrev pub deposit_in : Waiting → Deposit → DepositState → List Booking → BookEntry
deposit_in w d deposit.Held bookings = book_entry w state.Held d.book None d.source bookings
deposit_in w d (deposit.Cleared c) bookings = book_entry w state.Cleared c.bank_day (Some c.bank_ref) d.source bookings
deposit_in w d (deposit.Cancelled day) bookings = book_entry w state.Cancelled day None d.source bookings
deposit_in w d (deposit.Returned r) bookings =
    book_entry w state.Returned r.returning.bank_day (Some r.returning.bank_ref) d.source bookings

-- the day since which a payment has waited; if it was never issued, the day on which it was booked
abbrev pub since_of : Payment → PaymentState → ℕ
since_of p payment.Proposed = p.book
since_of p payment.Declined = p.book
since_of p (payment.Issued day) = day
since_of p (payment.Cleared c) = c.issued
since_of p (payment.Voided v) = v.issued

-- the only day of a declined payment is the one on which it was booked
abbrev pub payment_in : Waiting → Payment → PaymentState → List Booking → BookEntry
payment_in w p payment.Proposed bookings = book_entry w state.Proposed p.book None p.payee bookings
payment_in w p payment.Declined bookings = book_entry w state.Declined p.book None p.payee bookings
payment_in w p (payment.Issued day) bookings = book_entry w state.Issued day None p.payee bookings
payment_in w p (payment.Cleared c) bookings =
    book_entry w state.Cleared c.clearing.bank_day (Some c.clearing.bank_ref) p.payee bookings
payment_in w p (payment.Voided v) bookings = book_entry w state.Voided v.undone None p.payee bookings

abbrev pub told_deposit : ℕ → ℕ → Deposit → BookEntry
told_deposit m n d =
    deposit_in (waiting_deposit (reference_text m n) d.amount d.source d.description) d d.state
    (deposit_bookings d.amount d.state)

abbrev pub told_payment : ℕ → ℕ → Payment → BookEntry
told_payment m n p =
    payment_in (waiting_payment (reference_text m n) p.amount (since_of p p.state) p.instrument) p p.state
    (payment_bookings p.amount p.state)

abbrev pub told_entries : ℕ → ℕ → Entry → List BookEntry
told_entries m n (entry.Deposit d) = told_deposit m n d ∷ []
told_entries m n (entry.Payment p) = told_payment m n p ∷ []
told_entries m n (entry.Fee f) = []
told_entries m n (entry.Claim c) = []

-- the deposit or payment in a row of a matter
abbrev pub row_entries : ℕ × Row → List BookEntry
row_entries (m, HeadRow head) = []
row_entries (m, SeatRow seat) = []
row_entries (m, EntryRow n e) = told_entries m n e

-- What is known of a firm.

unfoldable pub known_of : Firm → Known
known_of firm = record {
  held = held_of firm;
  entries = flat_map row_entries firm.rows;
  exceptions = firm.exceptions;
}

-- What is known from rows that are passed one at a time.

abbrev pub none_known : Known
none_known = record { held = none_held; entries = []; exceptions = [] }

abbrev pub know_row : Known → ℕ × Row → Known
know_row known row = record known { held = with_row known.held row; entries = known.entries ++ row_entries row }

abbrev pub know_own_line : Known → FirmLine → Known
know_own_line known l = record known { held = with_own_line known.held l }

abbrev pub know_exception : Known → Line → Known
know_exception known line = record known { exceptions = known.exceptions ++ line ∷ [] }
