-- The ranges of amounts, bank amounts, matters, entries and days.
use Rattle.std.specs.Prelude.{◌≤◌, ◌/◌, ◌%◌, ℕ, ℤ, pos, unsigned_abs, Bool, ◌&&◌, nat_le}
use Rattle.jiff.specs.Words.{days_in_month}
use Rattle.trust_values.specs.declared.limits.TheConstants.{MAX_AMOUNT, MAX_BANK_AMOUNT, MAX_MATTER, MAX_ENTRY, MIN_YEAR, MAX_YEAR, MAX_CIVIL_YEAR}

-- the least amount, in cents
abbrev pub MIN_AMOUNT : ℕ
MIN_AMOUNT = 1

-- an amount, in cents
abbrev pub IsAmount : ℕ → Type 0
IsAmount n = (MIN_AMOUNT ≤ n) × (n ≤ MAX_AMOUNT)

-- the lowest matter number
abbrev pub MIN_MATTER : ℕ
MIN_MATTER = 1

-- a matter number
abbrev pub IsMatterNo : ℕ → Type 0
IsMatterNo n = (MIN_MATTER ≤ n) × (n ≤ MAX_MATTER)

-- the year of a business day
abbrev pub IsDayYear : ℕ → Type 0
IsDayYear y = (MIN_YEAR ≤ y) × (y ≤ MAX_YEAR)

-- A civil day is one number, year * 10000 + month * 100 + day of the month. Days compare as these numbers do.

-- 2000-01-01
abbrev pub MIN_DAY : ℕ
MIN_DAY = 20000101

-- 2199-12-31
abbrev pub MAX_DAY : ℕ
MAX_DAY = 21991231

-- the year of a day's number
abbrev pub year_of : ℕ → ℕ
year_of n = n / 10000

-- the month of a day's number, from 1
abbrev pub month_of : ℕ → ℕ
month_of n = n / 100 % 100

-- the day of the month of a day's number, from 1
abbrev pub month_day_of : ℕ → ℕ
month_day_of n = n % 100

-- a day of the Gregorian calendar in the years 2000 to 2199
unfoldable pub IsDay : ℕ → Type 0
IsDay n =
    IsDayYear (year_of n)
    × ((1 ≤ month_of n) × (month_of n ≤ 12))
    × ((1 ≤ month_day_of n) × (month_day_of n ≤ days_in_month (pos (year_of n)) (month_of n)))

-- `IsDay` as a boolean
unfoldable pub is_day : ℕ → Bool
is_day n =
    (nat_le MIN_YEAR (year_of n) && nat_le (year_of n) MAX_YEAR)
    && (nat_le 1 (month_of n) && nat_le (month_of n) 12)
    && (nat_le 1 (month_day_of n) && nat_le (month_day_of n) (days_in_month (pos (year_of n)) (month_of n)))

-- the lowest entry number
abbrev pub MIN_ENTRY : ℕ
MIN_ENTRY = 1

-- the number of an entry within its matter
abbrev pub IsEntryNo : ℕ → Type 0
IsEntryNo n = (MIN_ENTRY ≤ n) × (n ≤ MAX_ENTRY)

-- an amount or zero, in cents
abbrev pub IsAmountOrZero : ℕ → Type 0
IsAmountOrZero n = n ≤ MAX_AMOUNT

-- an amount on a bank line, in cents; negative if the money went out
abbrev pub IsBankAmount : ℤ → Type 0
IsBankAmount z = unsigned_abs z ≤ MAX_BANK_AMOUNT

-- a day of the Gregorian calendar in the years 2000 to 9999
unfoldable pub IsCivilDay : ℕ → Type 0
IsCivilDay n =
    ((MIN_YEAR ≤ year_of n) × (year_of n ≤ MAX_CIVIL_YEAR))
    × ((1 ≤ month_of n) × (month_of n ≤ 12))
    × ((1 ≤ month_day_of n) × (month_day_of n ≤ days_in_month (pos (year_of n)) (month_of n)))
