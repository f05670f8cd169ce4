-- Decides the outcome for the lines of a statement.
use Rattle.std.specs.Prelude.{ℕ, Bool, ◌&&◌, ◌||◌, ◌==◌, not, nat_le, nat_lt, List, map, Option, Some, None, find}
use Rattle.std.specs.Prelude.{if◌then◌else◌}
use Rattle.std.specs.List.{count_by, filter, list_any}
use Rattle.std.specs.Ordering.{int_eq}
use Rattle.trust_base.specs.declared.line.Line.{Line}
use Rattle.statement_lines.specs.Bookings.{booking_of, is_beside, is_same_booking, total_of}
use Rattle.statement_lines.specs.Held.{Held}
use Rattle.statement_lines.specs.OpenLines.{is_claimed, is_open_fit, is_open_like}
use Rattle.statement_lines.specs.Showing.{fits}
use Rattle.statement_lines.specs.Waiting.{Waiting}
use Rattle.statement_lines.specs.declared.line_outcome.LineOutcome.{LineOutcome}
use Rattle.statement_lines.specs.declared.line_outcome.LineOutcome.TheVariants as outcome
pub use Rattle.statement_lines.specs.OpenLines.{is_open}

-- 1. In the book already.

-- the book has at least as many lines with its date, bank reference and amount as the statement has open ones
abbrev pub is_booked : Held → List Line → Line → Bool
is_booked held lines line =
    nat_le (count_by (is_open_like line) lines) (count_by (is_same_booking (booking_of line)) held.bookings)

-- lines of the book have its date and bank reference
abbrev pub is_beside_booked : Held → Line → Bool
is_beside_booked held line = list_any (is_beside (booking_of line)) held.bookings

-- it is the statement's only line with its date and bank reference, and the book's lines with these add up to its
-- amount
abbrev pub is_booked_in_parts : Held → List Line → Line → Bool
is_booked_in_parts held lines line =
    (count_by (λ x. is_beside (booking_of line) (booking_of x)) lines == 1) && is_beside_booked held line
    && int_eq (total_of (filter (is_beside (booking_of line)) held.bookings)) line.amount

unfoldable pub is_in_book : Held → List Line → Line → Bool
is_in_book held lines line = is_booked held lines line || is_booked_in_parts held lines line

-- 2. Doubled.

-- another open line, or a line of the book, has its date, bank reference and amount
unfoldable pub is_doubled : Held → List Line → Line → Bool
is_doubled held lines line =
    nat_lt 1 (count_by (is_open_like line) lines) || list_any (is_same_booking (booking_of line)) held.bookings

-- 3. Filled.

-- exactly one open line fits the entry
abbrev pub is_fitted_once : ℕ → List Line → Waiting → Bool
is_fitted_once today lines w = count_by (is_open_fit today w) lines == 1

-- given an entry that an open line fits, the line is filled with it if no other open line fits the entry and no record
-- has its reference
abbrev pub filled_with : ℕ → Held → List Line → Option Waiting → LineOutcome
filled_with today held lines None = outcome.Left
filled_with today held lines (Some w) =
    if is_fitted_once today lines w && not (is_claimed lines w.reference)
    then outcome.Filled w.reference
    else outcome.Left

-- an open line to which none of the earlier cases applies: it is filled if it fits exactly one entry, but left if the
-- book has lines beside it
unfoldable pub fill : ℕ → Held → List Line → Line → LineOutcome
fill today held lines line =
    if not (is_beside_booked held line) && count_by (fits today line) held.waiting == 1
    then filled_with today held lines (find (fits today line) held.waiting)
    else outcome.Left

-- The outcome for a line: the first case that holds.

unfoldable pub becomes : ℕ → Held → List Line → Line → LineOutcome
becomes today held lines line =
    if not (is_open line) then outcome.AsItIs
    else if is_in_book held lines line then outcome.InBook
    else if is_doubled held lines line then outcome.Doubled
    else fill today held lines line

-- the outcome for each line of a statement
abbrev pub outcomes : ℕ → Held → List Line → List LineOutcome
outcomes today held lines = map (becomes today held lines) lines
