-- Rows in an order: what is found of them, how they are sorted, and what they stand for.
use Rattle.sql_rows.proofs.Names.{◌≡◌, ◌≤◌, ℤ, Bool, true, false, not, ◌||◌, List, [], ◌∷◌, ◌++◌, map, filter, find, length, Some, refl, sym, ap, ap₂, ◌∙◌, subst, arith, pos, nat_abs, int_cmp, Ordering, Less, is_lt, is_gt, is_eq, IsPermutation, IsSorted, AllByRecursion, list_any, IsTotalOrder, nat_cmp, ordering_then, ordering_reverse, ints, nat_tests, map-append, recursion_from_All, filter_passes, IsPermutation-sym, IsPermutation-cons, IsPermutation-trans, IsPermutation-middle, IsPermutation-filter_both, IsAscending, IsKeyedBy, insert_sorted, sort_by, IsPermutation-filter, all_weaker, all_both, ascending-append, ascending-filter, filter-map, HasNoTies, IsPermutation-sort_by, sorted_is-sort_by, all-filter, rules, cond_both, length_permutation, slice_get-filter, all-permutation, ascending-get_or, sorted_unique, IsPermutation-push_more, slice_get, get_or, all-slice_get, filter_same}

-- Answers of an order.

-- the answer of a row that comes before
less_from_lt : (o : Ordering) → is_lt o ≡ true → o ≡ Less
less_from_lt o h = grind arith

-- where the second of two answers is no tie, neither are both, one after the other
pub untied_last : (a b : Ordering) → is_eq b ≡ false → is_eq (ordering_then a b) ≡ false
untied_last a b h = grind arith

-- where the first is none, it stands for both, and for the answer the other way round
untied_first : (a b : Ordering) → is_eq a ≡ false
    → (is_lt (ordering_then a b) ≡ is_lt a) × (is_eq (ordering_then a b) ≡ false)
    × (is_lt (ordering_reverse (ordering_then a b)) ≡ is_lt (ordering_reverse a))
untied_first a b h = (search rules, search rules, search rules)

-- answers one after another, in whatever way they are joined
pub then_assoc : (a b c : Ordering) → ordering_then a (ordering_then b c) ≡ ordering_then (ordering_then a b) c
then_assoc a b c = grind arith

-- numbers that are not below zero compare as what they are read as
pub read_cmp : (a b : ℤ) → a ≡ pos (nat_abs a) → b ≡ pos (nat_abs b) → int_cmp a b ≡ nat_cmp (nat_abs a) (nat_abs b)
read_cmp a b is also = grind (arith, ints, nat_tests)

-- Tests of rows.

-- rows of which one passes stand for what one of passes
pub any_read : {X Y : Type 0} (p : X → Bool) (q : Y → Bool) (read : X → Y) (xs : List X)
    → AllByRecursion (λ x. p x ≡ q (read x)) xs → list_any q (map read xs) ≡ list_any p xs
any_read p q read [] h = refl
any_read p q read (x ∷ xs) h = λ i. sym h.0 i || any_read p q read xs h.1 i

-- what holds of each holds of the one that is found
pub all-find : {X : Type 0} (P : X → Type 0) (p : X → Bool) (xs : List X) (x : X) → AllByRecursion P xs
    → find p xs ≡ Some x → P x
all-find P p xs x all found = all-slice_get P (filter p xs) 0 x (slice_get-filter p xs ∙ found) (all-filter P p xs all)

-- which passes
pub found_passes : {X : Type 0} (p : X → Bool) (xs : List X) (x : X) → find p xs ≡ Some x → p x ≡ true
found_passes p xs x found =
    all-slice_get (λ y. p y ≡ true) (filter p xs) 0 x (slice_get-filter p xs ∙ found)
    (recursion_from_All _ _ (filter_passes p xs))

-- Rows that rise in an order.

-- one in its place among the others
abbrev pub placed : {X : Type 0} → (X → X → Ordering) → X → List X → List X
placed cmp new xs = filter (λ x. is_lt (cmp x new)) xs ++ (new ∷ filter (λ x. is_lt (cmp new x)) xs)

module _ {X : Type 0} (cmp : X → X → Ordering) (total : IsTotalOrder cmp) where
  -- each row comes before those behind it
  abbrev pub Rises : List X → Type 0
  Rises = IsAscending (λ a b. cmp a b ≡ Less)

  sorted_from_rises : (xs : List X) → Rises xs → IsSorted cmp xs
  sorted_from_rises xs up k d p q = grind (arith, ints, nat_tests, ascending-get_or, is_lt, get_or, ordering_reverse)

  -- the one order of the rows in which they rise
  pub sorts_to : (xs ys : List X) → HasNoTies cmp total xs → IsPermutation xs ys → Rises ys → sort_by cmp xs ≡ ys
  sorts_to xs ys apart same up = sym (sorted_is-sort_by cmp total xs ys apart same (sorted_from_rises ys up))

  shuffled : (xs : List X) → IsPermutation xs (sort_by cmp xs)
  shuffled xs = IsPermutation-sym _ _ (IsPermutation-sort_by cmp total xs)

  -- what holds of each row holds of each once they are sorted
  pub all-sort_by : (P : X → Type 0) (xs : List X) → AllByRecursion P xs → AllByRecursion P (sort_by cmp xs)
  all-sort_by P xs = all-permutation P xs (sort_by cmp xs) (shuffled xs)

  all-insert_sorted : (P : X → Type 0) (x : X) (xs : List X) → P x → AllByRecursion P xs
      → AllByRecursion P (insert_sorted cmp x xs)
  all-insert_sorted P x [] h all = (h, tt)
  all-insert_sorted P x (y ∷ xs) h all = cond_both (is_gt (cmp x y)) (y ∷ insert_sorted cmp x xs) (x ∷ y ∷ xs)
      (AllByRecursion P) (λ _. (all.0, all-insert_sorted P x xs h all.1)) (λ _. (h, all))

  rises-insert_sorted : (new : X) (xs : List X) → AllByRecursion (λ y. is_eq (cmp new y) ≡ false) xs → Rises xs
      → Rises (insert_sorted cmp new xs)
  rises-insert_sorted new [] apart up = (tt, tt)
  rises-insert_sorted new (x ∷ xs) apart up =
      grind (arith, ints, nat_tests, all_weaker, is_eq, all-insert_sorted, (rises-insert_sorted new xs apart.1 up.1))

  -- where no two tie, the rows rise once they are sorted
  rises-sort_by : (xs : List X) → HasNoTies cmp total xs → Rises (sort_by cmp xs)
  rises-sort_by [] apart = tt
  rises-sort_by (x ∷ xs) apart = rises-insert_sorted x _ (all-sort_by _ xs apart.0) (rises-sort_by xs apart.1)

  -- some of the rows
  sort_by-filter : (p : X → Bool) (xs : List X) → HasNoTies cmp total xs
      → sort_by cmp (filter p xs) ≡ filter p (sort_by cmp xs)
  sort_by-filter p xs apart =
      sorts_to (filter p xs) (filter p (sort_by cmp xs)) (ascending-filter _ p xs apart)
      (IsPermutation-filter p _ _ (shuffled xs)) (ascending-filter _ p _ (rises-sort_by xs apart))

  -- of what passes once at most, sorting finds the same
  pub find-sort_by : (p : X → Bool) (xs : List X) → length (filter p (sort_by cmp xs)) ≤ 1
      → find p (sort_by cmp xs) ≡ find p xs
  find-sort_by p xs few =
      let same = IsPermutation-filter p (sort_by cmp xs) xs (IsPermutation-sort_by cmp total xs) in
      let lengths = length_permutation _ _ same in
      let one =
      sorted_unique cmp total _ _ (one_rises _ few) same (λ k d q r. absurd (omega (arith, few, lengths, r))) in
      sym (slice_get-filter p (sort_by cmp xs)) ∙ ap (λ l. slice_get l 0) (sym one) ∙ slice_get-filter p xs
    where
      one_rises : (ys : List X) → length ys ≤ 1 → Rises ys
      one_rises [] few = tt
      one_rises (y ∷ []) few = (tt, tt)
      one_rises (y ∷ z ∷ ys) few = absurd (omega arith)

  passed : (p : X → Bool) (R : X → Type 0) → ((x : X) → p x ≡ true → R x) → (xs : List X)
      → AllByRecursion R (filter p xs)
  passed p R f xs = all_weaker (λ x. p x ≡ true) R f (filter p xs) (recursion_from_All _ _ (filter_passes p xs))

  further : (x : X) {new : X} → cmp x new ≡ Less → (xs : List X) → AllByRecursion (λ y. cmp new y ≡ Less) xs
      → AllByRecursion (λ y. cmp x y ≡ Less) xs
  further x {new} below xs above = all_weaker _ _ (λ y lt. total.trans x new y below lt) xs above

  rises-placed : (new : X) (xs : List X) → Rises xs → Rises (placed cmp new xs)
  rises-placed new xs up =
      let before = filter (λ x. is_lt (cmp x new)) xs in
      let behind = filter (λ x. is_lt (cmp new x)) xs in
      let above : AllByRecursion (λ x. cmp new x ≡ Less) behind = passed _ _ (λ x h. less_from_lt (cmp new x) h) xs in
      ascending-append (λ a b. cmp a b ≡ Less) before (new ∷ behind) (ascending-filter _ _ xs up)
      (above, ascending-filter _ _ xs up)
      (passed _ _ (λ x h. (less_from_lt (cmp x new) h, further x (less_from_lt (cmp x new) h) behind above)) xs)

  behind_if_not : (o : Ordering) → is_eq o ≡ false → not (is_lt o) ≡ is_lt (ordering_reverse o)
  behind_if_not o h = grind arith

  IsPermutation-placed : (new : X) (xs : List X) → AllByRecursion (λ x. is_eq (cmp x new) ≡ false) xs
      → IsPermutation (new ∷ xs) (placed cmp new xs)
  IsPermutation-placed new xs other =
      let before = λ (x : X). is_lt (cmp x new) in
      let rest : filter (λ x. not (before x)) xs ≡ filter (λ x. is_lt (cmp new x)) xs =
      filter_same _ _ xs
      (all_weaker _ _ (λ x h. behind_if_not (cmp x new) h ∙ ap is_lt (sym (total.antisymm new x))) xs other) in
      let both = IsPermutation-filter_both before (λ x. not (before x)) (λ x. refl) xs in
      IsPermutation-trans _ _ _
      (IsPermutation-cons new _ _ (subst (λ l. IsPermutation xs (filter before xs ++ l)) rest both))
      (IsPermutation-sym _ _ (IsPermutation-middle (filter before xs) new _))

  -- a row behind the others is sorted to its place
  sort_by-push : (xs : List X) (new : X) → HasNoTies cmp total xs
      → AllByRecursion (λ x. is_eq (cmp x new) ≡ false) xs
      → sort_by cmp (xs ++ new ∷ []) ≡ placed cmp new (sort_by cmp xs)
  sort_by-push xs new apart other =
      let ys = sort_by cmp xs in
      sorts_to (xs ++ new ∷ []) (placed cmp new ys)
      (ascending-append _ xs (new ∷ []) apart (tt, tt) (all_weaker _ _ (λ x h. (h, tt)) xs other))
      (IsPermutation-push_more xs ys _ new (shuffled xs) (IsPermutation-placed new ys (all-sort_by _ xs other)))
      (rises-placed new ys (rises-sort_by xs apart))

-- the rows that pass a test stand for what passes it
pub read-filter_agrees : {X Y : Type 0} (read : X → Y) (p : X → Bool) (q : Y → Bool) (xs : List X)
    → AllByRecursion (λ x. p x ≡ q (read x)) xs → map read (filter p xs) ≡ filter q (map read xs)
read-filter_agrees read p q xs same = ap (map read) (filter_same p _ xs same) ∙ sym (filter-map q read xs)

-- Rows as what they stand for, where an order goes by that and then by a key that rises along the table.

module _ {X Y : Type 0} (key : X → ℤ) (cmp : X → X → Ordering) (total : IsTotalOrder cmp) (R : Y → Y → Ordering)
    (ranks : IsTotalOrder R) (read : X → Y) (IsWritten : X → Type 0)
    (agrees : (a b : X) → IsWritten a → IsWritten b
    → cmp a b ≡ ordering_then (R (read a) (read b)) (int_cmp (key a) (key b))) where
  -- no two rows tie
  untied_by_key : (xs : List X) → IsKeyedBy key xs → AllByRecursion IsWritten xs → HasNoTies cmp total xs
  untied_by_key [] up all = tt
  untied_by_key (x ∷ xs) up all =
      grind (arith, ints, nat_tests, all_both, is_eq, untied_last, int_cmp, (untied_by_key xs up.1 all.1))

  -- the rows that pass a test stand for what passes it, also once they are sorted
  pub read-filter : (p : X → Bool) (q : Y → Bool) (xs : List X) → IsKeyedBy key xs → AllByRecursion IsWritten xs
      → AllByRecursion (λ x. p x ≡ q (read x)) xs
      → map read (sort_by cmp (filter p xs)) ≡ filter q (map read (sort_by cmp xs))
  read-filter p q xs up all same =
      ap (map read) (sort_by-filter cmp total p xs (untied_by_key xs up all))
      ∙ read-filter_agrees read p q (sort_by cmp xs) (all-sort_by cmp total _ xs same)

  -- a row is before another, or behind it, as what they stand for is
  abbrev IsPlacedAs : X → X → Type 0
  IsPlacedAs a b = (is_lt (cmp a b) ≡ is_lt (R (read a) (read b))) × (is_eq (cmp a b) ≡ false)
      × (is_lt (cmp b a) ≡ is_lt (R (read b) (read a)))

  untied_read : (a b : X) → IsWritten a → IsWritten b → is_eq (R (read a) (read b)) ≡ false → IsPlacedAs a b
  untied_read a b is also apart = grind (arith, ints, nat_tests, untied_first)

  -- with a row behind the others, which stands for what none of them does, they stand for that and what they did
  pub read-push : (xs : List X) (new : X) → IsKeyedBy key xs → AllByRecursion IsWritten xs → IsWritten new
      → AllByRecursion (λ x. is_eq (R (read x) (read new)) ≡ false) xs
      → map read (sort_by cmp (xs ++ new ∷ [])) ≡ placed R (read new) (map read (sort_by cmp xs))
  read-push xs new up all is apart =
      let ys = sort_by cmp xs in
      let P = λ (x : X). IsPlacedAs x new in
      let each : AllByRecursion P xs = all_both IsWritten _ P (λ x w h. untied_read x new w is h) xs all apart in
      let there : AllByRecursion P ys = all-sort_by cmp total P xs each in
      ap (map read) (sort_by-push cmp total xs new (untied_by_key xs up all) (all_weaker P _ (λ x e. e.1) xs each))
      ∙ map-append read _ _
      ∙ ap₂ (λ l r. l ++ (read new ∷ r))
      (read-filter_agrees read _ (λ y. is_lt (R y (read new))) ys (all_weaker P _ (λ x e. e.0) ys there))
      (read-filter_agrees read _ (λ y. is_lt (R (read new) y)) ys (all_weaker P _ (λ x e. e.2) ys there))
