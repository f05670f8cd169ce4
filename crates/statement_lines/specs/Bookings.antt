-- What the bank booked: date, reference and amount.
use Rattle.std.specs.Prelude.{ℤ, pos, Bool, ◌&&◌, ◌==◌, ◌+ℤ◌, cond, List, [], ◌∷◌}
use Rattle.std.specs.Ordering.{int_eq}
use Rattle.std.specs.Str.{bytes_eq}
use Rattle.trust_base.specs.declared.line.Line.{Line}
use Rattle.statement_lines.specs.declared.booking.Booking.{Booking}

-- a bank line as it was booked
abbrev pub booking_of : Line → Booking
booking_of line = record { date = line.date; bank_ref = line.bank_ref; amount = line.amount }

-- both were booked on the same day under the same bank reference
abbrev pub is_beside : Booking → Booking → Bool
is_beside a b = a.date == b.date && bytes_eq a.bank_ref b.bank_ref

-- both were booked on the same day under the same bank reference, with the same amount
abbrev pub is_same_booking : Booking → Booking → Bool
is_same_booking a b = is_beside a b && int_eq a.amount b.amount

-- the sum of their amounts
abbrev pub total_of : List Booking → ℤ
total_of [] = pos 0
total_of (b ∷ bookings) = b.amount +ℤ total_of bookings

-- the amount if it passes a test, otherwise 0
abbrev pub amount_if : (Booking → Bool) → Booking → ℤ
amount_if test b = cond (test b) b.amount (pos 0)
