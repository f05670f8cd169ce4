-- Which elements of a list pass a test, where one alone does.
use Rattle.statement_match.proofs.Names.{◌≡◌, ◌∙◌, sym, ap, ℕ, ◌+◌, ◌<◌, ◌≤◌, Bool, true, cond, List, length, get_or, take, Some, arith, false, [], ◌∷◌, refl, ◌||◌, nat_lt, nat_tests, list_any, Contains, count_by, find, cases_order, get_or_default, length-take, ints, position_or_len, get_or-take, find_at, get_or-le-sum_by, passes_at_first, sum_by-cons, sum_by_more_le, get_or_from_slice_get, slice_get_within}

one_passes : {X : Type 0} (p : X → Bool) (xs : List X) (k : ℕ) (d : X)
    → k < length xs → p (get_or xs k d) ≡ true → 1 ≤ count_by p xs
one_passes p xs k d lt hit = grind (arith, ints, nat_tests, get_or, count_by, get_or-le-sum_by)

-- one that passes is counted
pub is_counted : {X : Type 0} (p : X → Bool) (xs : List X) (x : X) → Contains xs x → p x ≡ true → 1 ≤ count_by p xs
is_counted p xs x (k, lt, is) hit = one_passes p xs k x lt (ap p is ∙ hit)

-- whether any passes, by how many do
pub any_counted : {X : Type 0} (p : X → Bool) (xs : List X) → nat_lt 0 (count_by p xs) ≡ list_any p xs
any_counted p [] = refl
any_counted p (x ∷ xs) = rw (sum_by-cons (λ y. cond (p y) 1 0) x xs) (cases (p x) (any_counted p xs))
  where
    cases : (b : Bool) → nat_lt 0 (count_by p xs) ≡ list_any p xs
        → nat_lt 0 (cond b 1 0 + count_by p xs) ≡ (b || list_any p xs)
    cases true more = grind (arith, nat_tests)
    cases false more =
        let rest : cond false 1 0 + count_by p xs ≡ count_by p xs = omega arith in ap (nat_lt 0) rest ∙ more

two_in_order : {X : Type 0} (p : X → Bool) (xs : List X) (i k : ℕ) (d : X)
    → i < k → k < length xs → p (get_or xs i d) ≡ true → p (get_or xs k d) ≡ true → 2 ≤ count_by p xs
two_in_order p xs i k d order lt hit again =
    let inside : i < length (take k xs) = omega (arith, length-take k xs) in
    let front = one_passes p (take k xs) i d inside (ap p (get_or-take k xs i d order) ∙ hit) in
    grind (arith, ints, nat_tests, count_by, take, get_or, sum_by_more_le)

-- where one passes, two places at which elements pass are one
pub one_place : {X : Type 0} (p : X → Bool) (xs : List X) (i k : ℕ) (d : X) → count_by p xs ≡ 1
    → i < length xs → k < length xs → p (get_or xs i d) ≡ true → p (get_or xs k d) ≡ true → i ≡ k
one_place p xs i k d one li lk hit again = grind (arith, ints, nat_tests, cases_order, two_in_order)

abbrev pub found_is_there : {X : Type 0} (p : X → Bool) (xs : List X) (w : X) → find p xs ≡ Some w → Contains xs w
found_is_there p xs w e =
    let place = position_or_len p xs in
    let at = sym (find_at p xs) ∙ e in
    (place, slice_get_within xs place w at, get_or_from_slice_get xs place w w at)

pub found_passes : {X : Type 0} (p : X → Bool) (xs : List X) (w : X) → find p xs ≡ Some w → p w ≡ true
found_passes p xs w e =
    let there = found_is_there p xs w e in ap p (sym there.2) ∙ passes_at_first p xs w there.1

-- where one passes, what is found is each that passes
pub is_the_one : {X : Type 0} (p : X → Bool) (xs : List X) (w v : X)
    → count_by p xs ≡ 1 → find p xs ≡ Some w → Contains xs v → p v ≡ true → v ≡ w
is_the_one p xs w v one e (k, lt, is) hit =
    let there = found_is_there p xs w e in
    let passes = found_passes p xs w e in
    let at = get_or_default xs there.0 v w there.1 ∙ there.2 in
    sym is ∙ ap (λ i. get_or xs i v) (one_place p xs k there.0 v one lt there.1 (ap p is ∙ hit) (ap p at ∙ passes)) ∙ at
