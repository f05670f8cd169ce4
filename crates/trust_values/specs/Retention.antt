-- How long the records of a closed matter are kept.
use Rattle.std.specs.Prelude.{ℕ, ◌+◌, ◌*◌, ◌<◌, ◌≤◌, ◌==◌, ◌&&◌, Bool, nat_lt, pos, if◌then◌else◌}
use Rattle.jiff.specs.Words.{days_in_month}
use Rattle.trust_values.specs.declared.limits.TheConstants.{YEARS_KEPT}
use Rattle.trust_values.specs.Limits.{IsCivilDay, year_of, month_of, month_day_of}

-- a day's number from its year, month and day of the month
abbrev pub day_number : ℕ → ℕ → ℕ → ℕ
day_number y m d = y * 10000 + m * 100 + d

-- 29 February
abbrev pub is_leap_day : ℕ → Bool
is_leap_day n = (month_of n == 2) && (month_day_of n == 29)

-- the same month and day five years later; 28 February for 29 February, which that year does not have
abbrev pub retained_until : ℕ → ℕ
retained_until n = day_number (year_of n + YEARS_KEPT) (month_of n) (if is_leap_day n then 28 else month_day_of n)

-- the day after a day: in the same month, or the first of the next month, or 1 January of the next year
abbrev pub next_day : ℕ → ℕ
next_day n =
    if nat_lt (month_day_of n) (days_in_month (pos (year_of n)) (month_of n)) then n + 1
    else (if nat_lt (month_of n) 12 then day_number (year_of n) (month_of n + 1) 1 else day_number (year_of n + 1) 1 1)

-- `next` is the first calendar day after `n`
pub record IsDayAfter (n next : ℕ) : Type 0 where
  pub civil : IsCivilDay next
  pub later : n < next
  pub first : (k : ℕ) → IsCivilDay k → n < k → next ≤ k

-- the first day on which a matter closed on `close` may be purged
abbrev pub first_purge_day : ℕ → ℕ
first_purge_day close = next_day (retained_until close)
