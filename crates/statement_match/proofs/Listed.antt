-- The steps of the loop that lists entries.
use Rattle.statement_match.proofs.Names.{◌≡◌, ◌∙◌, sym, ap, ℕ, zero, suc, ◌+◌, ◌<◌, ◌≤◌, Bool, true, false, cond, List, [], ◌∷◌, ◌++◌, length, length-append, get_or, take, map, append-nil, refl, arith, filter, map-append, take-append-le, take_all, filter_more, ints, nat_tests}

-- The first texts of what passes a test.

take_through : {X : Type 0} (n : ℕ) (xs ys : List X) → take n (take n xs ++ ys) ≡ take n (xs ++ ys)
take_through zero xs ys = refl
take_through (suc n) [] ys = refl
take_through (suc n) (x ∷ xs) ys = ap (λ zs. x ∷ zs) (take_through n xs ys)

map_picked : {X Y : Type 0} (f : X → Y) (b : Bool) (xs : List X) (x : X)
    → map f (xs ++ cond b (x ∷ []) []) ≡ map f xs ++ cond b (f x ∷ []) []
map_picked f b xs x = grind (arith, ints, nat_tests, map-append)

pub listed_more : {X Y : Type 0} (f : X → Y) (p : X → Bool) (n : ℕ) (xs : List X) (i : ℕ) (d : X) → i < length xs
    → take n (take n (map f (filter p (take i xs))) ++ cond (p (get_or xs i d)) (f (get_or xs i d) ∷ []) [])
    ≡ take n (map f (filter p (take (i + 1) xs)))
listed_more f p n xs i d lt =
    take_through n (map f (filter p (take i xs))) (cond (p (get_or xs i d)) (f (get_or xs i d) ∷ []) [])
    ∙ ap (take n)
    (sym (map_picked f (p (get_or xs i d)) (filter p (take i xs)) (get_or xs i d))
    ∙ ap (map f) (sym (filter_more p xs i d lt)))

-- a list that has no room, and one that has, for a text that is told or not

pub has_no_room : {X : Type 0} (n : ℕ) (xs ys : List X) → n ≤ length xs → length xs ≤ n → take n (xs ++ ys) ≡ xs
has_no_room n xs ys within all = take-append-le n xs ys within ∙ take_all n xs all

pub is_not_told : {X : Type 0} (n : ℕ) (b : Bool) (xs : List X) (x : X) → b ≡ false → length xs ≤ n
    → take n (xs ++ cond b (x ∷ []) []) ≡ xs
is_not_told n b xs x miss short = grind (arith, ints, nat_tests, take, append-nil, take_all)

pub is_told : {X : Type 0} (n : ℕ) (b : Bool) (xs : List X) (x : X) → b ≡ true → length xs < n
    → take n (xs ++ cond b (x ∷ []) []) ≡ xs ++ x ∷ []
is_told n b xs x hit short = grind (arith, ints, nat_tests, length-append, length, take, take_all)

pub ruleset told_steps = (has_no_room, is_not_told, is_told)
