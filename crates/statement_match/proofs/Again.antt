-- A line that was filled, once the book has it.
use Rattle.statement_match.proofs.Names.{◌≡◌, ℕ, ◌≤◌, true, false, List, arith, nat_lt, Contains, count_by, cond-false, cond-true, le-leb, or_left, or_parts, nat_tests, Line, Booking, booking_of, is_same_booking, Held, is_open, is_open_like, becomes, is_doubled, is_in_book, ints}
use Rattle.statement_lines.specs.declared.line_outcome.LineOutcome.TheVariants as outcome
use Rattle.statement_match.proofs.Filling.{sure_of}
use Rattle.statement_match.proofs.Picks.{is_counted}

-- a line that is not doubled is open once
open_once : (held : Held) (lines : List Line) (line : Line) → is_doubled held lines line ≡ false
    → count_by (is_open_like line) lines ≤ 1
unfolding is_doubled
open_once held lines line single = grind (arith, ints, nat_tests, or_parts, nat_lt, count_by, is_open_like)

in_book : (held : Held) (lines : List Line) (line : Line) (b : Booking) → count_by (is_open_like line) lines ≤ 1
    → Contains held.bookings b → is_same_booking (booking_of line) b ≡ true → is_in_book held lines line ≡ true
unfolding is_in_book
in_book held lines line b few there same =
    let some = is_counted (is_same_booking (booking_of line)) held.bookings b there same in
    grind (arith, ints, nat_tests, or_left, le-leb)

-- a line that was filled is in the book of which a booking is that of the line
pub filled_is_booked : (today later : ℕ) (held new : Held) (lines : List Line) (line : Line) (reference : List ℕ)
    (b : Booking) → becomes today held lines line ≡ outcome.Filled reference → Contains new.bookings b
    → is_same_booking (booking_of line) b ≡ true → becomes later new lines line ≡ outcome.InBook
unfolding becomes
filled_is_booked today later held new lines line reference b filled there same =
    grind (arith, ints, nat_tests, sure_of, open_once, cond-false, is_open, cond-true, in_book)
