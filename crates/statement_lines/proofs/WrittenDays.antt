-- What digits that write a day are, and how far days are apart.
use Rattle.std.proofs.Common.{◌≡◌, ◌∙◌, sym, ap, refl, ℕ, ◌+◌, ◌*◌, ◌/◌, ◌%◌, ◌<◌, ◌≤◌, Bool, true, false, List, [], ◌∷◌, ◌++◌, length, arith, inl, inr, pos, ◌⊎◌}
use Rattle.std.proofs.lemmas.Bool.{cases_Bool, cases_lt, and_parts, or_cases, false≢true}
use Rattle.std.proofs.lemmas.Bool.Decides.{nat_tests, Decides-below_or, same_from_decides}
use Rattle.std.specs.Bool.{Decides}
use Rattle.std.specs.Prelude.{◌&&◌, ◌||◌}
use Rattle.std.specs.List.{list_any}
use Rattle.std.specs.Str.{bytes_eq}
use Rattle.std.proofs.lemmas.Slice.Eq.{bytes_eq-Decides}
unfoldable use Rattle.byte_streams.specs.Digits.{fixed_digits}
use Rattle.byte_streams.proofs.FixedFacts.{fixed-injective, length-fixed}
use Rattle.std.proofs.Common.{rules, to_z, w8}
use Rattle.std.proofs.lemmas.Int.{to_z_pos}
use Rattle.jiff_core.specs.Calendar.{IsDate, days_in_month}
use mir.Syntax.{w16}
use Rattle.trust_base.specs.Limits.{IsDay, MAX_DAY, month_day_of, month_of, year_of}
use Rattle.trust_base.proofs.DayFacts.{is_day-true, is_day-holds, day-bounds}
use Rattle.statement_lines.specs.WrittenDays.{is_day_near, spellings, spells}
unfoldable use Rattle.statement_lines.specs.WrittenDays.{any_below, spells_day_near}

-- A day's parts.

pub record HasParts (n : ℕ) : Type 0 where
  pub year : (2000 ≤ year_of n) × (year_of n ≤ 2199)
  pub month : (1 ≤ month_of n) × (month_of n ≤ 12)
  pub first : 1 ≤ month_day_of n
  pub last : month_day_of n ≤ days_in_month (pos (year_of n)) (month_of n)

pub day_parts : (n : ℕ) → IsDay n → HasParts n
unfolding IsDay
day_parts n (y, m, d) = record { year = y; month = m; first = d.0; last = d.1 }

-- in the signed numbers that a date is made of, they are a date
pub is_date : (n : ℕ) → IsDay n → IsDate (to_z w16 (year_of n)) (to_z w8 (month_of n)) (to_z w8 (month_day_of n))
is_date n day =
    let parts = day_parts n day in
    let year : to_z w16 (year_of n) ≡ pos (year_of n) = to_z_pos w16 (year_of n) (omega arith) in
    let month : to_z w8 (month_of n) ≡ pos (month_of n) = to_z_pos w8 (month_of n) (omega arith) in
    let of_month : to_z w8 (month_day_of n) ≡ pos (month_day_of n) = to_z_pos w8 (month_day_of n) (omega arith) in
    rw (year, month, of_month) (search rules)

-- Its digits, joined.

joined_eight : (y m d : ℕ) → y < 10000 → m < 100 → d < 100
    → fixed_digits 4 y ++ (fixed_digits 2 m ++ fixed_digits 2 d) ≡ fixed_digits 8 (y * 10000 + m * 100 + d)
unfolding fixed_digits
joined_eight y m d ly lm ld = grind arith

joined_year_last : (a b y : ℕ) → a < 100 → b < 100 → y < 10000
    → fixed_digits 2 a ++ (fixed_digits 2 b ++ fixed_digits 4 y) ≡ fixed_digits 8 (a * 1000000 + b * 10000 + y)
unfolding fixed_digits
joined_year_last a b y la lb ly = grind arith

joined_six : (a b c : ℕ) → b < 100 → c < 100
    → fixed_digits 2 a ++ (fixed_digits 2 b ++ fixed_digits 2 c) ≡ fixed_digits 6 (a % 100 * 10000 + b * 100 + c)
unfolding fixed_digits
joined_six a b c lb lc = grind arith

joined_short_last : (a b c : ℕ) → a < 100 → b < 100
    → fixed_digits 2 a ++ (fixed_digits 2 b ++ fixed_digits 2 c) ≡ fixed_digits 6 (a * 10000 + b * 100 + c % 100)
unfolding fixed_digits
joined_short_last a b c la lb = grind arith

-- the day that eight digits are, MMDDYYYY and DDMMYYYY
abbrev pub month_first : ℕ → ℕ
month_first n = n % 10000 * 10000 + n / 10000

abbrev pub day_first : ℕ → ℕ
day_first n = n % 10000 * 10000 + n / 10000 % 100 * 100 + n / 1000000

abbrev spelled : ℕ → List (List ℕ)
spelled k =
    fixed_digits 8 k
    ∷ fixed_digits 8 (month_of k * 1000000 + month_day_of k * 10000 + year_of k)
    ∷ fixed_digits 8 (month_day_of k * 1000000 + month_of k * 10000 + year_of k)
    ∷ fixed_digits 6 (year_of k % 100 * 10000 + month_of k * 100 + month_day_of k)
    ∷ fixed_digits 6 (month_of k * 10000 + month_day_of k * 100 + year_of k % 100)
    ∷ []

spellings_are : (k : ℕ) → k < 100000000 → spellings k ≡ spelled k
spellings_are k small =
    let whole : year_of k * 10000 + month_of k * 100 + month_day_of k ≡ k = omega arith in
    rw (
      joined_eight (year_of k) (month_of k) (month_day_of k) (omega arith) (omega arith) (omega arith),
      joined_year_last (month_of k) (month_day_of k) (year_of k) (omega arith) (omega arith) (omega arith),
      joined_year_last (month_day_of k) (month_of k) (year_of k) (omega arith) (omega arith) (omega arith),
      joined_six (year_of k) (month_of k) (month_day_of k) (omega arith) (omega arith),
      joined_short_last (month_of k) (month_day_of k) (year_of k) (omega arith) (omega arith),
      whole,
    ) refl

-- what spells a day is one of its five spellings
abbrev IsSpelled : List ℕ → ℕ → Type 0
IsSpelled digits k =
    (digits ≡ fixed_digits 8 k)
    ⊎ ((digits ≡ fixed_digits 8 (month_of k * 1000000 + month_day_of k * 10000 + year_of k))
    ⊎ ((digits ≡ fixed_digits 8 (month_day_of k * 1000000 + month_of k * 10000 + year_of k))
    ⊎ ((digits ≡ fixed_digits 6 (year_of k % 100 * 10000 + month_of k * 100 + month_day_of k))
    ⊎ (digits ≡ fixed_digits 6 (month_of k * 10000 + month_day_of k * 100 + year_of k % 100)))))

is_spelled : (digits : List ℕ) (k : ℕ) → k < 100000000 → spells digits k ≡ true → IsSpelled digits k
is_spelled digits k small e =
    let listed : list_any (bytes_eq digits) (spelled k) ≡ true =
    sym (ap (list_any (bytes_eq digits)) (spellings_are k small)) ∙ e in
    grind (arith, cases_Bool, bytes_eq-Decides)

spells_if : (digits : List ℕ) (k : ℕ) → k < 100000000 → IsSpelled digits k → spells digits k ≡ true
spells_if digits k small is =
    let listed : list_any (bytes_eq digits) (spelled k) ≡ true = grind (arith, cases_Bool, bytes_eq-Decides) in
    ap (list_any (bytes_eq digits)) (spellings_are k small) ∙ listed

-- Which digits write a day near one.

abbrev IsFound : ℕ → List ℕ → ℕ → Type 0
IsFound day digits k = (is_day_near day k ≡ true) × (spells digits k ≡ true)

found : (day : ℕ) (digits : List ℕ) (k : ℕ) → Decides (is_day_near day k && spells digits k) (IsFound day digits k)
found day digits k =
    (λ e. and_parts (is_day_near day k) (spells digits k) e, λ h. grind (arith, nat_tests, h))

near_decides : (day : ℕ) (digits : List ℕ)
    → Decides (spells_day_near day digits) ((k : ℕ) × (k < MAX_DAY + 1) × IsFound day digits k)
unfolding spells_day_near any_below
near_decides day digits =
    Decides-below_or (λ k. is_day_near day k && spells digits k) (IsFound day digits)
    (any_below (λ k. is_day_near day k && spells digits k)) (found day digits) refl (λ n. refl) (MAX_DAY + 1)

near_is_day : (day k : ℕ) → is_day_near day k ≡ true → k < MAX_DAY + 1
near_is_day day k near =
    let bounds = day-bounds k (is_day-holds k (and_parts _ _ near).0) in omega arith

-- where some numbers are all that the digits may be the spelling of, one of them is the day
near_if : (day : ℕ) (digits : List ℕ) (test : Bool)
    → ((k : ℕ) → k < 100000000 → is_day_near day k ≡ true → IsSpelled digits k → test ≡ true)
    → (test ≡ true → (k : ℕ) × (is_day_near day k ≡ true) × IsSpelled digits k)
    → test ≡ spells_day_near day digits
near_if day digits test only some =
    same_from_decides test (spells_day_near day digits) (λ e. e, λ e. e) (
      λ e.
          let it = (near_decides day digits).0 e in
          only it.0 (omega (arith, it.1)) it.2.0 (is_spelled digits it.0 (omega (arith, it.1)) it.2.1),
      λ e.
          let it = some e in
          let low = near_is_day day it.0 it.1 in
          (near_decides day digits).1 (it.0, low, (it.1, spells_if digits it.0 (omega arith) it.2)),
    )

-- the number of eight digits is one of three
eight_is : (n k : ℕ) → n < 100000000 → k < 100000000 → IsSpelled (fixed_digits 8 n) k
    → (k ≡ n) ⊎ ((k ≡ month_first n) ⊎ (k ≡ day_first n))
eight_is n k small low (inl e) = inl (sym (fixed-injective 8 n k small low e))
eight_is n k small low (inr (inl e)) =
    let same = fixed-injective 8 n _ small (omega arith) e in inr (inl (omega arith))
eight_is n k small low (inr (inr (inl e))) =
    let same = fixed-injective 8 n _ small (omega arith) e in inr (inr (omega arith))
eight_is n k small low (inr (inr (inr (inl e)))) =
    let long = length-fixed 8 n in
    let short = length-fixed 6 (year_of k % 100 * 10000 + month_of k * 100 + month_day_of k) in
    let same = ap length e in absurd (omega arith)
eight_is n k small low (inr (inr (inr (inr e)))) =
    let long = length-fixed 8 n in
    let short = length-fixed 6 (month_of k * 10000 + month_day_of k * 100 + year_of k % 100) in
    let same = ap length e in absurd (omega arith)

eight_first : (n : ℕ) → IsSpelled (fixed_digits 8 n) n
eight_first n = inl refl

eight_second : (n : ℕ) → n < 100000000 → IsSpelled (fixed_digits 8 n) (month_first n)
eight_second n small =
    let k = month_first n in
    let same : n ≡ month_of k * 1000000 + month_day_of k * 10000 + year_of k = omega arith in
    inr (inl (ap (fixed_digits 8) same))

eight_third : (n : ℕ) → n < 100000000 → IsSpelled (fixed_digits 8 n) (day_first n)
eight_third n small =
    let k = day_first n in
    let same : n ≡ month_day_of k * 1000000 + month_of k * 10000 + year_of k = omega arith in
    inr (inr (inl (ap (fixed_digits 8) same)))

pub eight_near : (day n : ℕ) → n < 100000000
    → (is_day_near day n || (is_day_near day (month_first n) || is_day_near day (day_first n)))
    ≡ spells_day_near day (fixed_digits 8 n)
eight_near day n small =
    near_if day (fixed_digits 8 n) _
    (λ k low near is.
    elim (eight_is n k small low is) [
      | inl e ↦ rw (rw e at near) refl
      | inr (inl e) ↦ let hit = rw e at near in grind (arith, nat_tests)
      | inr (inr e) ↦ let hit = rw e at near in grind (arith, nat_tests)
    ])
    (λ hit.
    elim (or_cases (is_day_near day n) (is_day_near day (month_first n) || is_day_near day (day_first n)) hit) [
      | inl near ↦ (n, near, eight_first n)
      | inr more ↦ elim (or_cases (is_day_near day (month_first n)) (is_day_near day (day_first n)) more) [
        | inl near ↦ (month_first n, near, eight_second n small)
        | inr near ↦ (day_first n, near, eight_third n small)
      ]
    ])

-- the number of six digits is one of two, in one of two centuries
abbrev short_month_first : ℕ → ℕ
short_month_first n = n % 100 * 10000 + n / 100

-- of a day from 2000 to 2199, what stands behind its century
century : (k m : ℕ) → 20000000 ≤ k → k < 22000000 → m ≡ k % 1000000 → (k ≡ 20000000 + m) ⊎ (k ≡ 21000000 + m)
century k m low high e = elim (cases_lt k 21000000) [ inl lt ↦ inl (omega arith) | inr ge ↦ inr (omega arith) ]

six_is : (n k : ℕ) → n < 1000000 → IsDay k → k < 100000000 → IsSpelled (fixed_digits 6 n) k
    → ((k ≡ 20000000 + n) ⊎ (k ≡ 21000000 + n))
    ⊎ ((k ≡ 20000000 + short_month_first n) ⊎ (k ≡ 21000000 + short_month_first n))
six_is n k small day low (inl e) =
    let long = length-fixed 8 k in
    let short = length-fixed 6 n in
    let same = ap length e in absurd (omega arith)
six_is n k small day low (inr (inl e)) =
    let long = length-fixed 8 (month_of k * 1000000 + month_day_of k * 10000 + year_of k) in
    let short = length-fixed 6 n in
    let same = ap length e in absurd (omega arith)
six_is n k small day low (inr (inr (inl e))) =
    let long = length-fixed 8 (month_day_of k * 1000000 + month_of k * 10000 + year_of k) in
    let short = length-fixed 6 n in
    let same = ap length e in absurd (omega arith)
six_is n k small day low (inr (inr (inr (inl e)))) =
    let parts = (day_parts k day).year in
    let same = fixed-injective 6 n (year_of k % 100 * 10000 + month_of k * 100 + month_day_of k) small (omega arith) e in
    inl (century k n (omega arith) (omega arith) (omega arith))
six_is n k small day low (inr (inr (inr (inr e)))) =
    let parts = (day_parts k day).year in
    let same = fixed-injective 6 n (month_of k * 10000 + month_day_of k * 100 + year_of k % 100) small (omega arith) e in
    inr (century k (short_month_first n) (omega arith) (omega arith) (omega arith))

six_first : (n k : ℕ) → n ≡ k % 1000000 → IsSpelled (fixed_digits 6 n) k
six_first n k e =
    let same : n ≡ year_of k % 100 * 10000 + month_of k * 100 + month_day_of k = omega arith in
    inr (inr (inr (inl (ap (fixed_digits 6) same))))

six_second : (n k : ℕ) → n < 1000000 → short_month_first n ≡ k % 1000000 → IsSpelled (fixed_digits 6 n) k
six_second n k small e =
    let same : n ≡ month_of k * 10000 + month_day_of k * 100 + year_of k % 100 = omega arith in
    inr (inr (inr (inr (ap (fixed_digits 6) same))))

-- a day near one, in either century, without its century
abbrev in_century : ℕ → ℕ → Bool
in_century day n = is_day_near day (20000000 + n) || is_day_near day (21000000 + n)

in_century_if : (day k n : ℕ) → is_day_near day k ≡ true → (k ≡ 20000000 + n) ⊎ (k ≡ 21000000 + n)
    → in_century day n ≡ true
in_century_if day k n near (inl e) = let hit = rw e at near in grind (arith, nat_tests)
in_century_if day k n near (inr e) = let hit = rw e at near in grind (arith, nat_tests)

in_century_is : (day n : ℕ) → n < 1000000 → in_century day n ≡ true
    → (k : ℕ) × (is_day_near day k ≡ true) × (n ≡ k % 1000000)
in_century_is day n small hit =
    elim (or_cases (is_day_near day (20000000 + n)) (is_day_near day (21000000 + n)) hit) [
      | inl near ↦ (20000000 + n, near, omega arith)
      | inr near ↦ (21000000 + n, near, omega arith)
    ]

pub six_near : (day n : ℕ) → n < 1000000
    → (in_century day n || in_century day (short_month_first n)) ≡ spells_day_near day (fixed_digits 6 n)
six_near day n small =
    near_if day (fixed_digits 6 n) _
    (λ k low near is.
    elim (six_is n k small (is_day-holds k (and_parts _ _ near).0) low is) [
      | inl e ↦ let hit = in_century_if day k n near e in grind (arith, nat_tests)
      | inr e ↦ let hit = in_century_if day k (short_month_first n) near e in grind (arith, nat_tests)
    ])
    (λ hit.
    elim (or_cases (in_century day n) (in_century day (short_month_first n)) hit) [
      | inl whole ↦ let it = in_century_is day n small whole in (it.0, it.1, six_first n it.0 it.2)
      | inr whole ↦
          let it = in_century_is day (short_month_first n) (omega arith) whole in
          (it.0, it.1, six_second n it.0 small it.2)
    ])

-- what is of another length, or not of digits, writes no day
pub none_near : (day : ℕ) (digits : List ℕ)
    → ((n : ℕ) → fixed_digits 8 n ≡ digits → ⊥) → ((n : ℕ) → fixed_digits 6 n ≡ digits → ⊥)
    → false ≡ spells_day_near day digits
none_near day digits eight six =
    near_if day digits false
    (λ k low near is. absurd (none k is))
    (λ e. absurd (false≢true e))
  where
    none : (k : ℕ) → IsSpelled digits k → ⊥
    none k (inl e) = eight _ (sym e)
    none k (inr (inl e)) = eight _ (sym e)
    none k (inr (inr (inl e))) = eight _ (sym e)
    none k (inr (inr (inr (inl e)))) = six _ (sym e)
    none k (inr (inr (inr (inr e)))) = six _ (sym e)

pub ruleset day_facts = (is_day-true, is_day-holds)
