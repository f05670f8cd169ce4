-- How amounts, matters, entries and days are written, and what a written text means.
use Rattle.std.specs.Prelude.{◌+◌, ◌/◌, ◌%◌, ℕ, zero, suc, ℤ, if◌then◌else◌, pos, negsuc, List, [], ◌∷◌, ◌++◌, Bool, not, ◌&&◌, ◌||◌, ◌==◌, length, slice_index, Option, Some, None, option_map, neg_ℤ, true, false, nat_le}
use Rattle.std.specs.Str.{bytes_eq}
use Rattle.std.specs.Fmt.{decimal}
use Rattle.byte_streams.specs.Digits.{fixed_digits}
use Rattle.trust_values.specs.declared.limits.TheConstants.{MAX_AMOUNT, MAX_BANK_AMOUNT, MAX_MATTER, MAX_ENTRY}
use Rattle.trust_values.specs.Limits.{MIN_AMOUNT, MIN_MATTER, MIN_ENTRY, MIN_DAY, MAX_DAY, is_day, year_of, month_of, month_day_of}

-- the two digits of a number below a hundred
abbrev pub two_digits : ℕ → List ℕ
two_digits n = (48 + n / 10) ∷ (48 + n % 10) ∷ []

-- a point and two digits of cents
abbrev pub end_text : ℕ → List ℕ
end_text n = 46 ∷ two_digits n

-- cents as dollars without leading zeros, a point and two digits
abbrev pub amount_text : ℕ → List ℕ
amount_text n = decimal (n / 100) ++ end_text (n % 100)

-- cents that may be negative: then with a leading minus sign
abbrev pub signed_text : ℤ → List ℕ
signed_text (pos n) = amount_text n
signed_text (negsuc n) = 45 ∷ amount_text (suc n)

-- six digits with leading zeros
abbrev pub matter_text : ℕ → List ℕ
matter_text n = fixed_digits 6 n

-- four, two and two digits, with dashes between them
abbrev pub date_text : ℕ → ℕ → ℕ → List ℕ
date_text y m d = fixed_digits 4 y ++ 45 ∷ (fixed_digits 2 m ++ 45 ∷ fixed_digits 2 d)

-- a day's number as YYYY-MM-DD
abbrev pub day_text : ℕ → List ℕ
day_text n = date_text (year_of n) (month_of n) (month_day_of n)

-- not empty, no plus sign, and no leading zero unless it is the only byte
abbrev pub starts_plainly : List ℕ → Bool
starts_plainly bs =
    not (length bs == 0) && not (slice_index bs 0 == 43) && (not (slice_index bs 0 == 48) || (length bs == 1))

-- what was found before; otherwise k if the test holds for it
abbrev pub or_here : Option ℕ → Bool → ℕ → Option ℕ
or_here (Some n) test k = Some n
or_here None true k = Some k
or_here None false k = None

-- the first number from low up to, but not including, k that is written as these bytes
unfoldable pub number_in : ℕ → ℕ → (ℕ → List ℕ) → List ℕ → Option ℕ
number_in low zero text bs = None
number_in low (suc k) text bs = or_here (number_in low k text bs) (nat_le low k && bytes_eq (text k) bs) k

-- the amount written as these bytes
abbrev pub amount_of : List ℕ → Option ℕ
amount_of bs = number_in MIN_AMOUNT (MAX_AMOUNT + 1) amount_text bs

-- the matter number written as these bytes
abbrev pub matter_of : List ℕ → Option ℕ
matter_of bs = number_in MIN_MATTER (MAX_MATTER + 1) matter_text bs

-- the number, if the calendar has that day
abbrev pub on_calendar : Option ℕ → Option ℕ
on_calendar None = None
on_calendar (Some n) = if is_day n then Some n else None

-- the day written as these bytes
abbrev pub day_of : List ℕ → Option ℕ
day_of bs = on_calendar (number_in MIN_DAY (MAX_DAY + 1) day_text bs)

-- four digits with leading zeros
abbrev pub entry_text : ℕ → List ℕ
entry_text n = fixed_digits 4 n

-- the entry number written as these bytes
abbrev pub entry_of : List ℕ → Option ℕ
entry_of bs = number_in MIN_ENTRY (MAX_ENTRY + 1) entry_text bs

-- the amount or zero written as these bytes
abbrev pub amount_or_zero_of : List ℕ → Option ℕ
amount_or_zero_of bs = number_in 0 (MAX_AMOUNT + 1) amount_text bs

-- a negative amount, given its size in cents
abbrev pub negative_text : ℕ → List ℕ
negative_text n = 45 ∷ amount_text n

-- the first, if there is one; otherwise the second, negated
abbrev pub or_negative : Option ℕ → Option ℕ → Option ℤ
or_negative (Some n) below = Some (pos n)
or_negative None below = option_map (λ n. neg_ℤ (pos n)) below

-- the bank amount written as these bytes, negative or not
abbrev pub bank_amount_of : List ℕ → Option ℤ
bank_amount_of bs =
    or_negative (number_in 0 (MAX_BANK_AMOUNT + 1) amount_text bs) (number_in 1 (MAX_BANK_AMOUNT + 1) negative_text bs)
