-- The first day whose deposits are together an amount.
use Rattle.statement_match.proofs.Names.{◌≡◌, ◌∙◌, sym, ap, subst, ℕ, zero, suc, ◌≤◌, ℤ, Bool, true, false, cond, List, [], ◌∷◌, get_or, Option, Some, None, refl, inl, inr, ◌↔◌, arith, nat_le, option_map, Contains, filter, find, and_parts, cases_order, eq-eqb, eqb-true, nat_tests, AllPairs-from_increasing, is_held, is_held_on, BookEntry, filter_from, filter_has, find_has, later, map_from, are_together, day_sums, day_with, first_day, held_days, least, lesser, same_day, Bor, ints, position_or_len, find_at, fails_before_first, get_or_from_slice_get, slice_get_within}
use Rattle.std.specs.List.Sorted.{IsStrictlyIncreasing}
use Rattle.statement_match.proofs.Picks.{found_is_there, found_passes}

-- The least of days.

-- it is there, and no day there is before it; there is none only without days
abbrev IsLeast : List ℕ → Option ℕ → Type 0
IsLeast days None = (x : ℕ) → Contains days x → ⊥
IsLeast days (Some m) = Contains days m × ((x : ℕ) → Contains days x → m ≤ x)

none_before : (m day k : ℕ) (days : List ℕ) → ((x : ℕ) → Contains days x → m ≤ x) → k ≤ day → k ≤ m
    → (x : ℕ) → Contains (day ∷ days) x → k ≤ x
none_before m day k days low first rest x (zero, lt, at) = omega (arith, at, first)
none_before m day k days low first rest x (suc i, lt, at) =
    let behind = low x (i, omega (arith, lt), at) in omega (arith, behind, rest)

least_of : (days : List ℕ) → IsLeast days (least days)
unfolding least
least_of [] = λ x (k, lt, at). omega (arith, lt)
least_of (day ∷ days) = by (least days) (least_of days)
  where
    by : (o : Option ℕ) → IsLeast days o → IsLeast (day ∷ days) (Some (lesser day o))
    by None none =
        ((0, omega arith, refl), none_before day day day days (λ x h. absurd (none x h)) (omega arith) (omega arith))
    by (Some m) (there, low) = pick (nat_le day m) refl
      where
        pick : (b : Bool) → nat_le day m ≡ b → IsLeast (day ∷ days) (Some (cond b day m))
        pick true before =
            ((0, omega arith, refl), none_before m day day days low (omega arith) (grind (arith, nat_tests, before)))
        pick false behind =
            (later day m days there, none_before m day m days low (grind (arith, nat_tests, behind)) (omega arith))

one_least : (days : List ℕ) (o q : Option ℕ) → IsLeast days o → IsLeast days q → o ≡ q
one_least days None None a b = refl
one_least days None (Some k) a b = absurd (a k b.0)
one_least days (Some m) None a b = absurd (b m a.0)
one_least days (Some m) (Some k) a b =
    let low = a.1 k b.0 in let high = b.1 m a.0 in ap Some (omega (arith, low, high))

least_there : (days : List ℕ) (m : ℕ) → least days ≡ Some m → Contains days m
least_there days m is = (subst (IsLeast days) is (least_of days)).0

-- The first of rising days that passes.

first_is_low : (p : ℕ → Bool) (days : List ℕ) → IsStrictlyIncreasing days → (w x : ℕ) → find p days ≡ Some w
    → Contains days x → p x ≡ true → w ≤ x
first_is_low p days rises w x e (k, lt, is) hit =
    let j = position_or_len p days in
    let at = sym (find_at p days) ∙ e in
    let inside = slice_get_within days j w at in
    let first = get_or_from_slice_get days j w x at in
    elim (cases_order j k) [
      | inl same ↦ let one = ap (λ i. get_or days i x) same in omega (arith, one, first, is)
      | inr h ↦ elim h [
        | inl before ↦ let l = AllPairs-from_increasing days rises j k x before lt in omega (arith, l, first, is)
        | inr behind ↦ absurd (let miss = sym (fails_before_first p days k x behind) ∙ ap p is ∙ hit in cc)
      ]
    ]

first_found : (p : ℕ → Bool) (days all : List ℕ) → IsStrictlyIncreasing days
    → ((day : ℕ) → Contains all day ↔ Contains days day) → find p days ≡ least (filter p all)
first_found p days all rises same =
    one_least (filter p all) (find p days) (least (filter p all)) (by (find p days) refl) (least_of (filter p all))
  where
    by : (o : Option ℕ) → find p days ≡ o → IsLeast (filter p all) o
    by None e = λ x there.
        let from = filter_from p all x there in
        let some = find_has p days x ((same x).0 from.1) from.0 in let clash = sym e ∙ some.1 in cc
    by (Some w) e = (
      filter_has p all w (found_passes p days w e) ((same w).1 (found_is_there p days w e)),
      λ x has. let from = filter_from p all x has in first_is_low p days rises w x e ((same x).0 from.1) from.0,
    )

-- The sums of days.

sums_found : (amount : ℤ) (entries : List BookEntry) (days : List ℕ)
    → day_with amount (day_sums entries days) ≡ find (are_together amount entries) days
sums_found amount entries [] = refl
sums_found amount entries (day ∷ days) =
    grind (arith, ints, nat_tests, find, option_map, (sums_found amount entries days))

pub sums_are : (amount : ℤ) (entries : List BookEntry) (days : List ℕ) → IsStrictlyIncreasing days
    → ((day : ℕ) → Contains (held_days entries) day ↔ Contains days day)
    → day_with amount (day_sums entries days) ≡ first_day amount entries
unfolding first_day
sums_are amount entries days rises same =
    grind (arith, ints, nat_tests, sums_found, first_found, are_together, held_days)

-- The day of a deposit that was booked on it.

pub day_is : (amount : ℤ) (entries : List BookEntry) (day : ℕ) → first_day amount entries ≡ Some day
    → same_day entries day ≡ Some day
unfolding first_day
day_is amount entries day is =
    let among = least_there (filter (are_together amount entries) (held_days entries)) day is in
    let there = (filter_from (are_together amount entries) (held_days entries) day among).1 in
    let e = map_from (λ (x : BookEntry). x.day) (filter (λ x. is_held x.state) entries) day there in
    let held = filter_from (λ (x : BookEntry). is_held x.state) entries e.0 e.1 in
    let first = find_has (is_held_on day) entries e.0 held.1 (rw held.0 (eq-eqb e.0.day day e.2)) in
    grind (arith, ints, nat_tests, found_passes, is_held_on, eqb-true, and_parts, is_held, option_map)

pub day_of_found : (o : Option (ℕ × Bor BookEntry))
    → option_map (λ e. e.1.now.day) o ≡ option_map (λ (e : BookEntry). e.day) (option_map (λ e. e.1.now) o)
day_of_found o = grind (arith, ints, nat_tests)
