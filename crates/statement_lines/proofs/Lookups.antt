-- The elements with a number stand side by side in a list that is sorted by it.
use Rattle.statement_lines.proofs.Names.{◌≡◌, ◌∙◌, sym, ap, ℕ, zero, suc, ◌+◌, ◌<◌, ◌≤◌, ◌==◌, Bool, true, false, not, List, [], ◌∷◌, ◌++◌, map, length, get_or, take, drop, refl, arith, ◌&&◌, nat_le, nat_lt, is_lt, nat_cmp, filter, IsPartitionPoint, IsStableByKey, ties, nat_tests, cases_Bool, get_or-drop, length-drop, map-append, take_more, filter_agree, IsKeyed, elements, has_key}
use denote.Ref.{Bor}

-- where none of the first i passes, those that pass are those of the rest
filter_behind : {X : Type 0} (p : X → Bool) (xs : List X) (i : ℕ)
    → ((k : ℕ) (d : X) → k < i → k < length xs → p (get_or xs k d) ≡ false) → filter p xs ≡ filter p (drop i xs)
filter_behind p [] zero none = refl
filter_behind p [] (suc i) none = refl
filter_behind p (x ∷ xs) zero none = refl
filter_behind p (x ∷ xs) (suc i) none =
    rw (none 0 x (omega arith) (omega arith))
    (filter_behind p xs i (λ k d h l. none (suc k) d (omega (arith, h)) (omega (arith, l))))

-- where the first i pass and no other does, those are all that pass
filter_front : {X : Type 0} (p : X → Bool) (xs : List X) (i : ℕ)
    → ((k : ℕ) (d : X) → k < i → k < length xs → p (get_or xs k d) ≡ true)
    → ((k : ℕ) (d : X) → i ≤ k → k < length xs → p (get_or xs k d) ≡ false) → filter p xs ≡ take i xs
filter_front p [] zero pass fail = refl
filter_front p [] (suc i) pass fail = refl
filter_front p (x ∷ xs) zero pass fail =
    rw (fail 0 x (omega arith) (omega arith))
    (filter_front p xs zero (λ k d h l. absurd (omega (arith, h))) (λ k d h l. fail (suc k) d (omega arith) (omega (arith, l))))
filter_front p (x ∷ xs) (suc i) pass fail =
    rw (pass 0 x (omega arith) (omega arith))
    (ap (λ ys. x ∷ ys)
    (filter_front p xs i (λ k d h l. pass (suc k) d (omega (arith, h)) (omega (arith, l)))
    (λ k d h l. fail (suc k) d (omega (arith, h)) (omega (arith, l)))))

above : (n key : ℕ) → nat_le n key ≡ false → (n == key) ≡ false
above n key h = grind (arith, nat_tests, h)

below : (n key : ℕ) → nat_lt n key ≡ true → (n == key) ≡ false
below n key h = grind (arith, nat_tests, h)

level : (n key : ℕ) → nat_lt n key ≡ false → nat_le n key ≡ true → (n == key) ≡ true
level n key h l = grind (arith, nat_tests, h, l)

pub between : {T : Type 0} (xs : List (ℕ × T)) (key start count : ℕ)
    → IsPartitionPoint (λ y. nat_lt y.0 key ≡ true) (λ y. nat_lt y.0 key ≡ false) xs start
    → IsPartitionPoint (λ y. nat_le y.0 key ≡ true) (λ y. nat_le y.0 key ≡ false) (drop start xs) count
    → start ≤ length xs → count ≤ length (drop start xs)
    → take count (drop start xs) ≡ filter (has_key key) xs
between {T} xs key start count low high in_list in_rest =
    sym (filter_behind (has_key key) xs start (λ k d h l. below (get_or xs k d).0 key (low.0 k d (omega arith) h))
    ∙ filter_front (has_key key) (drop start xs) count
    (λ k d h l. level (get_or (drop start xs) k d).0 key (not_low k d l) (high.0 k d (omega arith) h))
    (λ k d h l. above (get_or (drop start xs) k d).0 key (high.1 k d h l)))
  where
    not_low : (k : ℕ) (d : ℕ × T) → k < length (drop start xs) → nat_lt (get_or (drop start xs) k d).0 key ≡ false
    not_low k d l =
        let within : start + k < length xs = omega (arith, l, length-drop start xs) in
        ap (λ (y : ℕ × T). nat_lt y.0 key) (get_or-drop start xs k d) ∙ low.1 (start + k) d (omega arith) within

tie_is : (n key : ℕ) → (n == key) ≡ (not (is_lt (nat_cmp key n)) && not (is_lt (nat_cmp n key)))
tie_is n key = grind (arith, nat_tests)

-- a stable sort by the number leaves those with one in their order
pub kept_by_sort : {T : Type 0} (xs ys : List (ℕ × T)) → length ys ≡ length xs
    → IsStableByKey (λ p. p.0) nat_cmp xs ys → (key : ℕ) → filter (has_key key) ys ≡ filter (has_key key) xs
kept_by_sort [] [] long stable key = refl
kept_by_sort [] (y ∷ ys) long stable key = absurd (omega (arith, long))
kept_by_sort {T} (x ∷ xs) ys long stable key =
    filter_agree (has_key key) (ties lt (key, x.1)) same ys ∙ stable (key, x.1)
    ∙ sym (filter_agree (has_key key) (ties lt (key, x.1)) same (x ∷ xs))
  where
    lt : ℕ × T → ℕ × T → Bool
    lt a b = is_lt (nat_cmp a.0 b.0)

    same : (y : ℕ × T) → has_key key y ≡ ties lt (key, x.1) y
    same y = tie_is y.0 key

-- what is found of elements with their numbers
pub looked_up : {T : Type 0} (key : T → ℕ) (all : List T) (entries : List (ℕ × Bor T)) → IsKeyed key all entries
    → (k : ℕ) → elements (filter (has_key k) entries) ≡ filter (λ x. key x == k) all
looked_up key [] [] same k = refl
looked_up key [] (e ∷ entries) same k = absurd (cc)
looked_up key (x ∷ all) [] same k = absurd (cc)
looked_up {T} key (x ∷ all) (e ∷ entries) same k = grind (arith, nat_tests, cases_Bool, (looked_up key all entries))

-- one more element, with its number
pub keyed_more : {T : Type 0} (key : T → ℕ) (all : List T) (i : ℕ) (entries new : List (ℕ × Bor T)) (x : Bor T) (n : ℕ)
    → i < length all → x.now ≡ get_or all i x.now → n ≡ key x.now → IsKeyed key (take i all) entries
    → new ≡ entries ++ (n, x) ∷ [] → IsKeyed key (take (i + 1) all) new
keyed_more {T} key all i entries new x n within is number so_far added =
    ap (map plain) added ∙ map-append plain entries ((n, x) ∷ [])
    ∙ ap (λ es. es ++ (n, x.now) ∷ []) so_far ∙ ap (λ m. map numbered (take i all) ++ (m, x.now) ∷ []) number
    ∙ sym (ap (map numbered) (take_more all i x.now within ∙ ap (λ y. take i all ++ y ∷ []) (sym is))
    ∙ map-append numbered (take i all) (x.now ∷ []))
  where
    plain : ℕ × Bor T → ℕ × T
    plain entry = (entry.0, entry.1.now)

    numbered : T → ℕ × T
    numbered y = (key y, y)
