-- The waiting deposits, by the day on which they were booked.
use Rattle.std.specs.Prelude.{ℕ, ℤ, pos, Bool, cond, nat_le, List, [], ◌∷◌, map, Option, Some, None, find}
use Rattle.std.specs.Prelude.{if◌then◌else◌, option_map}
use Rattle.std.specs.List.{filter}
use Rattle.std.specs.Ordering.{int_eq}
use Rattle.firm_rows.specs.Sums.{sum_of}
use Rattle.statement_lines.specs.EntryStates.{is_held, is_held_on}
use Rattle.statement_lines.specs.declared.book_entry.BookEntry.{BookEntry}

abbrev pub amount_of : BookEntry → ℤ
amount_of e = e.entry.amount

-- the sum of the held deposits that were booked on the day
abbrev pub together_on : List BookEntry → ℕ → ℤ
together_on entries day = sum_of amount_of (filter (is_held_on day) entries)

-- what an entry adds to the sum of the held deposits
abbrev pub amount_if_held : BookEntry → ℤ
amount_if_held e = cond (is_held e.state) (amount_of e) (pos 0)

-- the held deposits that were booked on the day add up to the amount
abbrev pub are_together : ℤ → List BookEntry → ℕ → Bool
are_together amount entries day = int_eq (together_on entries day) amount

-- the days on which held deposits were booked
abbrev pub held_days : List BookEntry → List ℕ
held_days entries = map (λ e. e.day) (filter (λ e. is_held e.state) entries)

-- the earlier of a day and another, if there is another
abbrev pub lesser : ℕ → Option ℕ → ℕ
lesser day None = day
lesser day (Some other) = if nat_le day other then day else other

-- the earliest of the days, if there are any
unfoldable pub least : List ℕ → Option ℕ
least [] = None
least (day ∷ days) = Some (lesser day (least days))

-- the first day whose held deposits add up to the amount
unfoldable pub first_day : ℤ → List BookEntry → Option ℕ
first_day amount entries = least (filter (are_together amount entries) (held_days entries))

-- the sum of the held deposits of each of these days
abbrev pub day_sums : List BookEntry → List ℕ → List (ℕ × ℤ)
day_sums entries days = map (λ day. (day, together_on entries day)) days

-- the first day with this amount, in an ordered list of days and sums
abbrev pub day_with : ℤ → List (ℕ × ℤ) → Option ℕ
day_with amount sums = option_map (λ sum. sum.0) (find (λ sum. int_eq sum.1 amount) sums)

-- the day of the first held deposit that was booked on this day
abbrev pub same_day : List BookEntry → ℕ → Option ℕ
same_day entries day = option_map (λ e. e.day) (find (is_held_on day) entries)
