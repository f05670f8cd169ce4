-- The days until which records are kept are days of the calendar.
use Rattle.trust_values.proofs.Names.{◌≡◌, ℕ, ◌≤◌, ◌<◌, ◌+◌, ◌-◌, ◌*◌, ◌/◌, ◌%◌, pos, Bool, true, false, cond, nat_lt, refl, arith, false≢true, nat_tests, days_in_month, IsDay, IsCivilDay, month_day_of, month_of, year_of, day_number, retained_until, next_day, IsDayAfter}

-- Tests.

is-lt : (a b : ℕ) → nat_lt a b ≡ true → a < b
is-lt a b h = grind (arith, nat_tests)

not-lt : (a b : ℕ) → nat_lt a b ≡ false → b ≤ a
not-lt a b h = grind (arith, nat_tests)

-- no month is longer than 31 days, or shorter than 28
pub month-length : (y m : ℕ) → (28 ≤ days_in_month (pos y) m) × (days_in_month (pos y) m ≤ 31)
month-length y m = (grind arith, grind arith)

-- the numbers of the days
pub retained_leap : (n : ℕ) → n % 10000 ≡ 229 → retained_until n ≡ (n - 1) + 50000
retained_leap n is = grind (arith, nat_tests)

pub retained_other : (n : ℕ) → (n % 10000 ≡ 229 → ⊥) → retained_until n ≡ n + 50000
retained_other n other = grind (arith, nat_tests, day_number)

pub retained_civil_leap : (n : ℕ) → IsDay n → n % 10000 ≡ 229 → IsCivilDay ((n - 1) + 50000)
unfolding IsDay IsCivilDay
retained_civil_leap n (y, m, d) is = grind (arith, nat_tests, month-length)

pub retained_civil_other : (n : ℕ) → IsDay n → (n % 10000 ≡ 229 → ⊥) → IsCivilDay (n + 50000)
unfolding IsDay IsCivilDay
retained_civil_other n (y, m, d) other = grind (arith, nat_tests)

pub retained_year : (n : ℕ) → IsDay n → year_of (retained_until n) ≤ 2204
unfolding IsDay
retained_year n (y, m, d) = grind (arith, nat_tests, retained_leap, retained_other, false≢true)

-- The day after.

-- the day behind it in its month
pub next_within : (n : ℕ) → IsCivilDay n → IsCivilDay (n + 1) → next_day n ≡ n + 1
unfolding IsCivilDay
next_within n (y, m, d) (z, k, e) = grind (arith, nat_tests, month-length)

-- the last of a month
pub last-of-month : (n : ℕ) → IsCivilDay n → (IsCivilDay (n + 1) → ⊥) → month_day_of n ≡ days_in_month (pos (year_of n)) (month_of n)
unfolding IsCivilDay
last-of-month n (y, m, d) none = grind (arith, nat_tests, not-lt, month-length, is-lt)

abbrev pub first_behind : ℕ → ℕ
first_behind n = cond (nat_lt (n / 100 % 100) 12) ((n / 100 + 1) * 100 + 1) ((n / 10000 + 1) * 10000 + 101)

pub next_over : (n first : ℕ) → IsCivilDay n → (IsCivilDay (n + 1) → ⊥) → first ≡ first_behind n → next_day n ≡ first
next_over n first is none f = grind (arith, nat_tests, last-of-month, day_number)

pub over_civil : (n first : ℕ) → IsCivilDay n → year_of n < 9999 → first ≡ first_behind n → IsCivilDay first
unfolding IsCivilDay
over_civil n first (y, m, d) early f = grind (arith, nat_tests, is-lt, month-length)

-- it is the first day behind
month-behind : (n k : ℕ) → IsCivilDay n → (IsCivilDay (n + 1) → ⊥) → IsCivilDay k → n < k → n / 100 < k / 100
unfolding IsCivilDay
month-behind n k is none (cy, cm, cd) behind = cases (nat_lt (n / 100) (k / 100)) refl
  where
    cases : (b : Bool) → nat_lt (n / 100) (k / 100) ≡ b → n / 100 < k / 100
    cases true g = is-lt _ _ g
    cases false g =
        let same : k / 100 ≡ n / 100 = omega (arith, not-lt _ _ g) in
        let same_year : k / 10000 ≡ n / 10000 = omega arith in
        let last = last-of-month n is none in
        grind (arith)

first-least : (n first k : ℕ) → IsCivilDay n → first ≡ first_behind n → IsCivilDay k → n / 100 < k / 100 → first ≤ k
unfolding IsCivilDay
first-least n first k is f (cy, cm, cd) far = grind (arith, nat_tests, is-lt, not-lt)

first-later : (n first : ℕ) → first ≡ first_behind n → n < first
first-later n first f = grind (arith, nat_tests, is-lt, not-lt)

pub after_over : (n first : ℕ) → IsCivilDay n → (IsCivilDay (n + 1) → ⊥) → year_of n < 9999 → first ≡ first_behind n → IsDayAfter n first
after_over n first is none early f = record {
  civil = over_civil n first is early f;
  later = first-later n first f;
  first = λ k civil behind. first-least n first k is f civil (month-behind n k is none civil behind);
}

-- what the code cites

pub ruleset retained_facts = (retained_leap, retained_other, retained_civil_leap, retained_civil_other, retained_year)
