-- Days that are written in digits alone, as banks do in the words of a line.
use Rattle.std.specs.Prelude.{ℕ, zero, suc, ℤ, pos, ◌-ℤ◌, unsigned_abs, Bool, false, ◌&&◌, ◌||◌, nat_le}
use Rattle.std.specs.Prelude.{List, [], ◌∷◌, ◌++◌, ◌+◌}
use Rattle.std.specs.List.{list_any}
use Rattle.std.specs.Str.{bytes_eq}
use Rattle.jiff_core.specs.Calendar.{days_from_civil}
use Rattle.byte_streams.specs.Digits.{fixed_digits}
use Rattle.trust_base.specs.Limits.{MAX_DAY, is_day, month_day_of, month_of, year_of}

-- How a day is written.

-- the four digits of its year
abbrev pub year_digits : ℕ → List ℕ
year_digits day = fixed_digits 4 (year_of day)

-- the last two of them
abbrev pub short_year_digits : ℕ → List ℕ
short_year_digits day = fixed_digits 2 (year_of day)

-- the two digits of its month
abbrev pub month_digits : ℕ → List ℕ
month_digits day = fixed_digits 2 (month_of day)

-- the two digits of its day of the month
abbrev pub month_day_digits : ℕ → List ℕ
month_day_digits day = fixed_digits 2 (month_day_of day)

-- a day as YYYYMMDD, MMDDYYYY, DDMMYYYY, YYMMDD and MMDDYY
abbrev pub spellings : ℕ → List (List ℕ)
spellings day =
    (year_digits day ++ (month_digits day ++ month_day_digits day))
    ∷ (month_digits day ++ (month_day_digits day ++ year_digits day))
    ∷ (month_day_digits day ++ (month_digits day ++ year_digits day))
    ∷ (short_year_digits day ++ (month_digits day ++ month_day_digits day))
    ∷ (month_digits day ++ (month_day_digits day ++ short_year_digits day))
    ∷ []

-- the digits write the day
abbrev pub spells : List ℕ → ℕ → Bool
spells digits day = list_any (bytes_eq digits) (spellings day)

-- How far days are apart.

-- the days from 1 January 1970 to a day of the calendar
abbrev pub days_since_1970 : ℕ → ℤ
days_since_1970 day = days_from_civil (pos (year_of day)) (month_of day) (month_day_of day)

-- the number is that of a day of the calendar, at most 400 days before or after this one
abbrev pub is_day_near : ℕ → ℕ → Bool
is_day_near day n = is_day n && nat_le (unsigned_abs (days_since_1970 n -ℤ days_since_1970 day)) 400

-- Which digits write a day near another.

-- a number below this one passes the test
unfoldable pub any_below : (ℕ → Bool) → ℕ → Bool
any_below test zero = false
any_below test (suc n) = test n || any_below test n

-- the digits write a day of the calendar that is near this one
unfoldable pub spells_day_near : ℕ → List ℕ → Bool
spells_day_near day digits = any_below (λ n. is_day_near day n && spells digits n) (MAX_DAY + 1)
