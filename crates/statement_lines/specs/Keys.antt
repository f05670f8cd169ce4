-- Numbers for lookup: things that are alike have the same number.
use Rattle.std.specs.Prelude.{ℕ, ◌+◌, ◌*◌, ◌%◌, ◌^◌, List, unsigned_abs}
use Rattle.std.specs.List.{fold}
use Rattle.trust_base.specs.declared.line.Line.{Line}
use Rattle.statement_lines.specs.declared.book_entry.BookEntry.{BookEntry}
use Rattle.statement_lines.specs.declared.booking.Booking.{Booking}
use Rattle.statement_lines.specs.Bookings.{booking_of}
use Rattle.statement_lines.specs.Waiting.{Waiting}

-- the key after one more byte
abbrev pub next_key : ℕ → ℕ → ℕ
next_key key byte = ((key * 1099511628211) % 2 ^ 64 + byte) % 2 ^ 64

-- the key of a number and a text
unfoldable pub text_key : ℕ → List ℕ → ℕ
text_key start text = fold next_key start text

-- the key of a bank line: its date and bank reference
abbrev pub booking_key : Booking → ℕ
booking_key b = text_key b.date b.bank_ref

abbrev pub line_key : Line → ℕ
line_key line = booking_key (booking_of line)

-- the key of an amount without its sign, in cents
abbrev pub waiting_key : Waiting → ℕ
waiting_key w = unsigned_abs w.amount

abbrev pub amount_key : Line → ℕ
amount_key line = unsigned_abs line.amount

-- the key of a line's reference
abbrev pub claim_key : Line → ℕ
claim_key line = text_key 0 line.reference

-- the key of a deposit's or payment's amount without its sign, in cents
abbrev pub entry_key : BookEntry → ℕ
entry_key e = waiting_key e.entry

-- the key of its day
abbrev pub day_key : BookEntry → ℕ
day_key e = e.day

-- the key of its reference
abbrev pub reference_key : BookEntry → ℕ
reference_key e = text_key 0 e.entry.reference
