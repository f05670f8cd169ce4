-- What a book has that the lines of a statement are compared with.
use Rattle.std.specs.Prelude.{List}
use Rattle.statement_lines.specs.Waiting.{Waiting}
use Rattle.statement_lines.specs.declared.booking.Booking.{Booking}

-- what the lines of a statement are compared with in a book: the entries that wait for the bank, and the bank lines
-- that are booked
pub record Held : Type 0 where
  pub waiting : List Waiting
  pub bookings : List Booking
