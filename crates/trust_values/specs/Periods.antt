-- Periods of days.
use Rattle.std.specs.Prelude.{ℕ}
use Rattle.trust_values.specs.Limits.{month_of, year_of}
use Rattle.trust_values.specs.Retention.{day_number}

-- a period's first and last day
pub record Span : Type 0 where
  pub from : ℕ
  pub to : ℕ

-- the first of a day's month
abbrev pub first_of_month : ℕ → ℕ
first_of_month n = day_number (year_of n) (month_of n) 1

-- from the first of a day's month to the day
abbrev pub month_to : ℕ → Span
month_to day = record { from = first_of_month day; to = day }
