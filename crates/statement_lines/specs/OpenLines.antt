-- Lines without a reference, those that are alike, and those that are the same with a reference.
use Rattle.std.specs.Prelude.{ℕ, Bool, ◌&&◌, ◌==◌, not, List, length}
use Rattle.std.specs.List.{list_any}
use Rattle.std.specs.Str.{bytes_eq}
use Rattle.trust_base.specs.declared.line.Line.{Line}
use Rattle.statement_lines.specs.Bookings.{booking_of, is_same_booking}
use Rattle.statement_lines.specs.Waiting.{Waiting}
use Rattle.statement_lines.specs.Showing.{fits}

-- a line without a reference
abbrev pub is_open : Line → Bool
is_open line = length line.reference == 0

-- an open line with this one's date, bank reference and amount
abbrev pub is_open_like : Line → Line → Bool
is_open_like line x = is_open x && is_same_booking (booking_of line) (booking_of x)

-- `x` is this line with a reference
abbrev pub is_named_like : Line → Line → Bool
is_named_like line x =
    is_same_booking (booking_of line) (booking_of x) && bytes_eq line.text x.text && not (is_open x)

-- an open line that fits the entry
abbrev pub is_open_fit : ℕ → Waiting → Line → Bool
is_open_fit today w x = is_open x && fits today x w

-- a record has this reference
abbrev pub is_claimed : List Line → List ℕ → Bool
is_claimed lines reference = list_any (λ x. bytes_eq x.reference reference) lines
