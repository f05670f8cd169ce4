-- The numbers and the texts of days.
use Rattle.trust_values.proofs.Names.{get_or, ◌≡◌, ◌≢◌, ℕ, ◌≤◌, ◌<◌, ◌+◌, ◌*◌, ◌/◌, ◌%◌, ℤ, List, [], ◌∷◌, ◌++◌, length, take, drop, slice_index, Option, Some, None, IfSome, IfNone, true, ◌&&◌, nat_le, refl, sym, ◌∙◌, arith, cases_Bool, decimal_digit, decimal, days_in_month, IsDay, MAX_DAY, MIN_DAY, is_day, month_day_of, month_of, year_of, fixed_digits, date_text, day_of, day_text, number_in, on_calendar, fixed-injective, length-fixed}
use Rattle.std.proofs.lemmas.List.{drop_all, drop_more, length-take}
use Rattle.trust_values.proofs.ReadFacts.{none_in_range, number-found, number-text}

pub record HasDateParts (t : List ℕ) (y m d : ℕ) : Type 0 where
  pub size : length t ≡ 10
  pub first_dash : slice_index t 4 ≡ 45
  pub second_dash : slice_index t 7 ≡ 45
  pub year : fixed_digits 4 y ≡ take 4 t
  pub month : fixed_digits 2 m ≡ take 2 (drop 5 t)
  pub day : fixed_digits 2 d ≡ take 2 (drop 8 t)

four : (a : List ℕ) → length a ≡ 4 → (w : ℕ) × (x : ℕ) × (y : ℕ) × (z : ℕ) × (a ≡ w ∷ x ∷ y ∷ z ∷ [])
four a e = (get_or a 0 0, get_or a 1 0, get_or a 2 0, get_or a 3 0, all)
  where
    all : a ≡ get_or a 0 0 ∷ get_or a 1 0 ∷ get_or a 2 0 ∷ get_or a 3 0 ∷ []
    all = grind (arith, (drop_more a 0 0), (drop_more a 1 0), (drop_more a 2 0), (drop_more a 3 0), (drop_all 4 a))

two : (a : List ℕ) → length a ≡ 2 → (w : ℕ) × (x : ℕ) × (a ≡ w ∷ x ∷ [])
two a e = (get_or a 0 0, get_or a 1 0, grind (arith, (drop_more a 0 0), (drop_more a 1 0), (drop_all 2 a)))

-- ten bytes with dashes in their places
parts : (a b c t : List ℕ) → length a ≡ 4 → length b ≡ 2 → length c ≡ 2 → a ++ 45 ∷ (b ++ 45 ∷ c) ≡ t
    → (length t ≡ 10) × (slice_index t 4 ≡ 45) × (slice_index t 7 ≡ 45) × (a ≡ take 4 t) × (b ≡ take 2 (drop 5 t)) × (c ≡ take 2 (drop 8 t))
parts a b c t la lb lc e = grind (arith, four, two)

pub date_parts : (y m d : ℕ) (t : List ℕ) → date_text y m d ≡ t → HasDateParts t y m d
date_parts y m d t e =
    grind (arith, length-fixed, (parts (fixed_digits 4 y) (fixed_digits 2 m) (fixed_digits 2 d) t))

-- such a text is its parts, joined by dashes
rejoin : (t : List ℕ) → length t ≡ 10 → slice_index t 4 ≡ 45 → slice_index t 7 ≡ 45
    → take 4 t ++ 45 ∷ (take 2 (drop 5 t) ++ 45 ∷ take 2 (drop 8 t)) ≡ t
rejoin [] l x y = absurd (omega arith)
rejoin (a ∷ []) l x y = absurd (omega arith)
rejoin (a ∷ b ∷ []) l x y = absurd (omega arith)
rejoin (a ∷ b ∷ c ∷ []) l x y = absurd (omega arith)
rejoin (a ∷ b ∷ c ∷ d ∷ []) l x y = absurd (omega arith)
rejoin (a ∷ b ∷ c ∷ d ∷ e ∷ []) l x y = absurd (omega arith)
rejoin (a ∷ b ∷ c ∷ d ∷ e ∷ f ∷ []) l x y = absurd (omega arith)
rejoin (a ∷ b ∷ c ∷ d ∷ e ∷ f ∷ g ∷ []) l x y = absurd (omega arith)
rejoin (a ∷ b ∷ c ∷ d ∷ e ∷ f ∷ g ∷ h ∷ []) l x y = absurd (omega arith)
rejoin (a ∷ b ∷ c ∷ d ∷ e ∷ f ∷ g ∷ h ∷ i ∷ []) l x y = absurd (omega arith)
rejoin (a ∷ b ∷ c ∷ d ∷ e ∷ f ∷ g ∷ h ∷ i ∷ j ∷ []) l x y = grind (arith)
rejoin (a ∷ b ∷ c ∷ d ∷ e ∷ f ∷ g ∷ h ∷ i ∷ j ∷ k ∷ r) l x y = absurd (omega arith)

-- the number of three parts has their text
pub number_joined : (y m d : ℕ) (t : List ℕ) → m < 100 → d < 100 → length t ≡ 10 → slice_index t 4 ≡ 45 → slice_index t 7 ≡ 45
    → fixed_digits 4 y ≡ take 4 t → fixed_digits 2 m ≡ take 2 (drop 5 t) → fixed_digits 2 d ≡ take 2 (drop 8 t)
    → day_text (y * 10000 + m * 100 + d) ≡ t
number_joined y m d t lm ld l x z ey em ed = grind (arith, rejoin)

-- no number of k digits has this text
pub none-of : (k n : ℕ) (slice other : List ℕ) → slice ≡ other → length other ≡ k → ((m : ℕ) → fixed_digits (length slice) m ≢ slice) → fixed_digits k n ≡ other → ⊥
none-of k n slice other same size never e = never n (rw (same, size) e)

-- a number of at most eight digits has one text
pub day_injective : (m n : ℕ) → m < 100000000 → n < 100000000 → day_text m ≡ day_text n → m ≡ n
day_injective m n a b e =
    let p = date_parts (year_of m) (month_of m) (month_day_of m) (day_text n) e in
    let q = date_parts (year_of n) (month_of n) (month_day_of n) (day_text n) refl in
    let y : year_of m ≡ year_of n = fixed-injective 4 (year_of m) (year_of n) (omega arith) (omega arith) (p.year ∙ sym q.year) in
    let o : month_of m ≡ month_of n = fixed-injective 2 (month_of m) (month_of n) (omega arith) (omega arith) (p.month ∙ sym q.month) in
    let d : month_day_of m ≡ month_day_of n = fixed-injective 2 (month_day_of m) (month_day_of n) (omega arith) (omega arith) (p.day ∙ sym q.day) in
    omega arith

-- no month is longer than 31 days
month-days : (y : ℤ) (m : ℕ) → days_in_month y m ≤ 31
month-days y m = grind arith

first-length : (y : ℤ) (m : ℕ) → 1 ≤ days_in_month y m
first-length y m = grind arith

-- the days lie between the first and the last
pub day-bounds : (n : ℕ) → IsDay n → (MIN_DAY ≤ n) × (n ≤ MAX_DAY)
unfolding IsDay
day-bounds n ((y, z), (a, b), (c, d)) = grind (arith, month-days, year_of, month_of, month_day_of)

within : (low high n : ℕ) → (low ≤ n) × (n ≤ high) → (nat_le low n && nat_le n high) ≡ true
within low high n (a, b) = grind arith

-- the test says what it should
pub is_day-true : (n : ℕ) → IsDay n → is_day n ≡ true
unfolding IsDay is_day
is_day-true n (y, m, d) = grind (arith, within, year_of, month_of, month_day_of)

pub is_day-holds : (n : ℕ) → is_day n ≡ true → IsDay n
unfolding IsDay is_day
is_day-holds n e = grind arith

pub day_of_is : (r : Option ℕ) (bs : List ℕ) → IfSome r IsDay → IfSome r (λ n. day_text n ≡ bs) → IfNone r ((n : ℕ) → IsDay n → day_text n ≢ bs) → r ≡ day_of bs
day_of_is (Some n) bs range e none =
    let (low, high) = day-bounds n range in
    let found = number-found MIN_DAY (MAX_DAY + 1) n day_text bs low (omega arith) e (λ m a b f. day_injective m n (omega arith) (omega arith) (f ∙ sym e)) in
    grind (arith, is_day-true)
day_of_is None bs range e none = grind (arith, number_in, on_calendar, cases_Bool, is_day-holds, number-text)

-- the text's bytes one by one
pub ten_bytes : (n : ℕ) → n < 100000000 → day_text n ≡
    (48 + n / 10000000 % 10) ∷ (48 + n / 1000000 % 10) ∷ (48 + n / 100000 % 10) ∷ (48 + n / 10000 % 10) ∷ 45
    ∷ (48 + n / 1000 % 10) ∷ (48 + n / 100 % 10) ∷ 45 ∷ (48 + n / 10 % 10) ∷ (48 + n % 10) ∷ []
unfolding fixed_digits
ten_bytes n small = grind (arith)

-- the text as it is printed, digit by digit
pub printed_ten : (n : ℕ) → n < 100000000 →
    decimal (n / 10000000 % 10) ++ (decimal (n / 1000000 % 10) ++ (decimal (n / 100000 % 10) ++ (decimal (n / 10000 % 10) ++ (45 ∷ (decimal (n / 1000 % 10) ++ (decimal (n / 100 % 10) ++ (45 ∷ (decimal (n / 10 % 10) ++ decimal (n % 10)))))))))
    ≡ day_text n
printed_ten n small = grind (arith, decimal_digit, ten_bytes)

-- the first of a day's month is a day, and no later
pub first_day : (n : ℕ) → IsDay n → IsDay (n / 100 * 100 + 1) × (n / 100 * 100 + 1 ≤ n)
unfolding IsDay
first_day n (y, (a, b), (c, d)) = grind (arith, first-length)

-- what the code cites

pub ruleset day_facts = (day-bounds, day_injective, none_in_range)

pub ruleset number_facts = (date_parts, none-of, number_joined, length-take)
