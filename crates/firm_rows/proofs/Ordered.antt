-- Lists in strict order, with and without a key.
use Rattle.firm_rows.proofs.Names.{◌≡◌, ◌≢◌, ℕ, zero, suc, ◌<◌, ◌≤◌, Bool, true, false, not, cond, List, [], ◌∷◌, ◌++◌, length, get_or, take, drop, insert, remove, Contains, refl, sym, ap, ◌∙◌, subst, arith, ◌⊎◌, ◌↔◌, inl, inr, ⊎_elim, AllByRecursion, IsStrictlySortedBy, IsNonDecreasingBy, IsTotalOrder, Ordering, Less, Equal, Greater, is_lt, is_eq, ordering_index, ordering_reverse, cond_both, not-true, false≢true, cases_lt, cases_eq, tied_itself, recursion_from_All, All-from_recursion, filter_passes, Contains-append_left, Contains-append_right, Contains-append_cases, ints, nat_tests}
use Rattle.std.proofs.Common.{filter}
use Rattle.std.proofs.lemmas.List.Kept.{IsStrictlySortedBy-filter}
use Rattle.std.proofs.lemmas.Map.Keys.{Less-from_sorted}

-- What an answer says.

pub lt-Less : (r : Ordering) → is_lt r ≡ true → r ≡ Less
lt-Less r is = grind (arith)

-- Lists and tests.

module _ {K : Type 0} where
  pub all-map : (P Q : K → Type 0) (xs : List K) → ((x : K) → P x → Q x) → AllByRecursion P xs → AllByRecursion Q xs
  all-map P Q [] f all = tt
  all-map P Q (x ∷ xs) f all = (f x all.0, all-map P Q xs f all.1)

  pub all-append : (P : K → Type 0) (xs ys : List K) → AllByRecursion P xs → AllByRecursion P ys → AllByRecursion P (xs ++ ys)
  all-append P [] ys all more = more
  all-append P (x ∷ xs) ys all more = (all.0, all-append P xs ys all.1 more)

  pub filter-all : (p : K → Bool) (xs : List K) → AllByRecursion (λ x. p x ≡ true) xs → filter p xs ≡ xs
  filter-all p [] all = refl
  filter-all p (x ∷ xs) all = rw (all.0) (ap (λ ys. x ∷ ys) (filter-all p xs all.1))

  pub filter-none : (p : K → Bool) (xs : List K) → AllByRecursion (λ x. p x ≡ false) xs → filter p xs ≡ []
  filter-none p [] all = refl
  filter-none p (x ∷ xs) all = rw (all.0) (filter-none p xs all.1)

  -- what passes a test stands before what fails it
  pub filter-front : (p : K → Bool) (i : ℕ) (xs : List K) → i ≤ length xs → ((j : ℕ) (d : K) → j < i → p (get_or xs j d) ≡ true) → ((j : ℕ) (d : K) → i ≤ j → j < length xs → p (get_or xs j d) ≡ false) → filter p xs ≡ take i xs
  filter-front p zero [] within on off = refl
  filter-front p (suc i) [] within on off = absurd (omega (arith, within))
  filter-front p zero (x ∷ xs) within on off = rw (off 0 x (omega arith) (omega arith)) (filter-front p zero xs (omega arith) (λ j d lt. absurd (omega (arith, lt))) (λ j d le lt. off (suc j) d (omega arith) (omega (arith, lt))))
  filter-front p (suc i) (x ∷ xs) within on off = rw (on 0 x (omega arith)) (ap (λ ys. x ∷ ys) (filter-front p i xs (omega (arith, within)) (λ j d lt. on (suc j) d (omega (arith, lt))) (λ j d le lt. off (suc j) d (omega (arith, le)) (omega (arith, lt)))))

  -- or behind it
  pub filter-rear : (p : K → Bool) (i : ℕ) (xs : List K) → i ≤ length xs → ((j : ℕ) (d : K) → j < i → p (get_or xs j d) ≡ false) → ((j : ℕ) (d : K) → i ≤ j → j < length xs → p (get_or xs j d) ≡ true) → filter p xs ≡ drop i xs
  filter-rear p zero [] within off on = refl
  filter-rear p (suc i) [] within off on = absurd (omega (arith, within))
  filter-rear p zero (x ∷ xs) within off on = rw (on 0 x (omega arith) (omega arith)) (ap (λ ys. x ∷ ys) (filter-rear p zero xs (omega arith) (λ j d lt. absurd (omega (arith, lt))) (λ j d le lt. on (suc j) d (omega arith) (omega (arith, lt)))))
  filter-rear p (suc i) (x ∷ xs) within off on = rw (off 0 x (omega arith)) (filter-rear p i xs (omega (arith, within)) (λ j d lt. off (suc j) d (omega (arith, lt))) (λ j d le lt. on (suc j) d (omega (arith, le)) (omega (arith, lt))))

  -- What a list contains.

  contains-here : (x : K) (xs : List K) → Contains (x ∷ xs) x
  contains-here x xs = (0, omega arith, refl)

  contains-one : (y x : K) → Contains (y ∷ []) x → y ≡ x
  contains-one y x x2 = grind (arith, ints, nat_tests)

  contains-cases : (y x : K) (ys : List K) → Contains (y ∷ ys) x → (y ≡ x) ⊎ Contains ys x
  contains-cases y x ys c = ⊎_elim (λ one. inl (contains-one y x one)) inr (Contains-append_cases (y ∷ []) ys x c)

  contains-filter : (p : K → Bool) (xs : List K) (x : K) → Contains xs x → p x ≡ true → Contains (filter p xs) x
  contains-filter p [] x c passes = absurd (omega (arith, c.1))
  contains-filter p (y ∷ ys) x c passes = ⊎_elim own (λ there. more (contains-filter p ys x there passes)) (contains-cases y x ys c)
    where
      own : y ≡ x → Contains (filter p (y ∷ ys)) x
      own is = let here : p y ≡ true = ap p is ∙ passes in rw here (subst (Contains (y ∷ filter p ys)) is (contains-here y (filter p ys)))

      more : Contains (filter p ys) x → Contains (filter p (y ∷ ys)) x
      more again = cond_both (p y) (y ∷ filter p ys) (filter p ys) (λ (zs : List K). Contains zs x) (λ _. Contains-append_right (y ∷ []) (filter p ys) x again) (λ _. again)

  filter-contains : (p : K → Bool) (xs : List K) (x : K) → Contains (filter p xs) x → Contains xs x
  filter-contains p [] x c = c
  filter-contains p (y ∷ ys) x c = cases (p y) (filter-contains p ys x) c
    where
      cases : (b : Bool) → (Contains (filter p ys) x → Contains ys x) → Contains (cond b (y ∷ filter p ys) (filter p ys)) x → Contains (y ∷ ys) x
      cases true again c' = ⊎_elim (λ is. subst (Contains (y ∷ ys)) is (contains-here y ys)) (λ more. Contains-append_right (y ∷ []) ys x (again more)) (contains-cases y x (filter p ys) c')
      cases false again c' = Contains-append_right (y ∷ []) ys x (again c')

  filter-passed : (p : K → Bool) (xs : List K) (x : K) → Contains (filter p xs) x → p x ≡ true
  filter-passed p xs x c = subst (λ (y : K). p y ≡ true) c.2 (filter_passes p xs c.0 x c.1)

-- A list with a key in its place, and without it.

module _ {K : Type 0} (R : K → K → Ordering) where
  abbrev lesser : K → List K → List K
  lesser k ks = filter (λ x. is_lt (R x k)) ks

  abbrev greater : K → List K → List K
  greater k ks = filter (λ x. is_lt (R k x)) ks

  abbrev with : K → List K → List K
  with k ks = lesser k ks ++ (k ∷ greater k ks)

  abbrev without : K → List K → List K
  without k ks = filter (λ x. not (is_eq (R x k))) ks

-- An order whose ties may differ.

module _ {K : Type 0} (R : K → K → Ordering) (o : IsTotalOrder R) where
  turned : (x y : K) (r : Ordering) → R x y ≡ r → R y x ≡ ordering_reverse r
  turned x y r is = o.antisymm y x ∙ ap ordering_reverse is

  -- It stays in order.

  sorted-append : (xs : List K) (y : K) (ys : List K) → IsStrictlySortedBy R xs → AllByRecursion (λ x. R x y ≡ Less) xs → IsStrictlySortedBy R (y ∷ ys) → IsStrictlySortedBy R (xs ++ y ∷ ys)
  unfolding IsStrictlySortedBy
  sorted-append [] y ys up below rest = rest
  sorted-append (x ∷ xs) y ys up below rest =
      grind (arith, ints, nat_tests, all-append, all-map, (sorted-append xs y ys up.1 below.1 rest))

  all-lesser : (k : K) (ks : List K) → AllByRecursion (λ x. R x k ≡ Less) (lesser R k ks)
  all-lesser k ks = all-map (λ x. is_lt (R x k) ≡ true) (λ x. R x k ≡ Less) (lesser R k ks) (λ x is. lt-Less (R x k) is) (recursion_from_All _ _ (filter_passes (λ x. is_lt (R x k)) ks))

  all-greater : (k : K) (ks : List K) → AllByRecursion (λ x. R k x ≡ Less) (greater R k ks)
  all-greater k ks = all-map (λ x. is_lt (R k x) ≡ true) (λ x. R k x ≡ Less) (greater R k ks) (λ x is. lt-Less (R k x) is) (recursion_from_All _ _ (filter_passes (λ x. is_lt (R k x)) ks))

  pub with-sorted : (k : K) (ks : List K) → IsStrictlySortedBy R ks → IsStrictlySortedBy R (with R k ks)
  unfolding IsStrictlySortedBy
  with-sorted k ks up = sorted-append (lesser R k ks) k (greater R k ks) (IsStrictlySortedBy-filter R (λ x. is_lt (R x k)) ks up) (all-lesser k ks) (all-greater k ks, IsStrictlySortedBy-filter R (λ x. is_lt (R k x)) ks up)

  pub without-sorted : (k : K) (ks : List K) → IsStrictlySortedBy R ks → IsStrictlySortedBy R (without R k ks)
  without-sorted k ks up = IsStrictlySortedBy-filter R (λ x. not (is_eq (R x k))) ks up

  -- a list that lacks the key, with a place between the lesser and the greater
  pub absent-at : (k : K) (ks : List K) (i : ℕ) → i ≤ length ks → ((j : ℕ) (d : K) → j < i → R (get_or ks j d) k ≡ Less) → ((j : ℕ) (d : K) → i ≤ j → j < length ks → R (get_or ks j d) k ≡ Greater) → (with R k ks ≡ insert ks i k) × (without R k ks ≡ ks)
  absent-at k ks i within low high =
      let front = filter-front (λ x. is_lt (R x k)) i ks within (λ j d lt. ap is_lt (low j d lt)) (λ j d le lt. ap is_lt (high j d le lt)) in
      let rear = filter-rear (λ x. is_lt (R k x)) i ks within (λ j d lt. ap is_lt (turned _ k Less (low j d lt))) (λ j d le lt. ap is_lt (turned _ k Greater (high j d le lt))) in
      let all = filter-rear (λ x. not (is_eq (R x k))) 0 ks (omega arith) (λ j d lt. absurd (omega (arith, lt))) (λ j d le lt. ⊎_elim (λ less. ap (λ r. not (is_eq r)) (low j d less)) (λ more. ap (λ r. not (is_eq r)) (high j d more lt)) (cases_lt j i)) in
      (λ n. front n ++ (k ∷ rear n), all)

  -- The comparisons with a key rise along a list in order, as a binary search asks.

  at-most-two : (r : Ordering) → ordering_index r ≤ 2
  at-most-two r = grind (arith)

  rise : (x y k : K) (r : Ordering) → R y k ≡ r → R x y ≡ Less → ordering_index (R x k) ≤ ordering_index r
  rise x y k r is lt = grind (arith, ints, nat_tests, ordering_reverse, at-most-two)

  pub rises : (k : K) (ks : List K) → IsStrictlySortedBy R ks → IsNonDecreasingBy (λ x. ordering_index (R x k)) ks
  rises k ks up i j d le within =
      ⊎_elim (λ (same : i ≡ j). let e = ap (λ n. ordering_index (R (get_or ks n d) k)) same in omega (arith, e))
      (λ apart. rise (get_or ks i d) (get_or ks j d) k (R (get_or ks j d) k) refl (Less-from_sorted R ks i j d up (omega arith) within))
      (cases_eq i j)

-- An order whose ties are the same key.

module _ {K : Type 0} (R : K → K → Ordering) (o : IsTotalOrder R) (exact : (x y : K) → R x y ≡ Equal → x ≡ y) where
  -- What it contains.

  pub with-contains : (k x : K) (ks : List K) → Contains (with R k ks) x ↔ ((x ≡ k) ⊎ Contains ks x)
  with-contains k x ks = (there, back)
    where
      there : Contains (with R k ks) x → (x ≡ k) ⊎ Contains ks x
      there c =
          ⊎_elim (λ l. inr (filter-contains (λ y. is_lt (R y k)) ks x l))
          (λ h. ⊎_elim (λ is. inl (sym is)) (λ r. inr (filter-contains (λ y. is_lt (R k y)) ks x r)) (contains-cases k x (greater R k ks) h))
          (Contains-append_cases (lesser R k ks) (k ∷ greater R k ks) x c)

      by : (r : Ordering) → R x k ≡ r → Contains ks x → Contains (with R k ks) x
      by Less is c = Contains-append_left (lesser R k ks) (k ∷ greater R k ks) x (contains-filter (λ y. is_lt (R y k)) ks x c (ap is_lt is))
      by Equal is c = Contains-append_right (lesser R k ks) (k ∷ greater R k ks) x (subst (Contains (k ∷ greater R k ks)) (sym (exact x k is)) (contains-here k (greater R k ks)))
      by Greater is c = Contains-append_right (lesser R k ks) (k ∷ greater R k ks) x (Contains-append_right (k ∷ []) (greater R k ks) x (contains-filter (λ y. is_lt (R k y)) ks x c (ap is_lt (turned R o x k Greater is))))

      back : (x ≡ k) ⊎ Contains ks x → Contains (with R k ks) x
      back (inl is) = Contains-append_right (lesser R k ks) (k ∷ greater R k ks) x (subst (Contains (k ∷ greater R k ks)) (sym is) (contains-here k (greater R k ks)))
      back (inr c) = by (R x k) refl c

  pub without-contains : (k x : K) (ks : List K) → Contains (without R k ks) x ↔ (Contains ks x × (x ≢ k))
  without-contains k x ks = (there, back)
    where
      tied : x ≡ k → is_eq (R x k) ≡ true
      tied is = ap is_eq (ap (λ y. R y k) is ∙ tied_itself o k)

      there : Contains (without R k ks) x → Contains ks x × (x ≢ k)
      there c = (filter-contains (λ y. not (is_eq (R y k))) ks x c, λ is. false≢true (sym (not-true (is_eq (R x k)) (filter-passed (λ y. not (is_eq (R y k))) ks x c)) ∙ tied is))

      apart : (r : Ordering) → R x k ≡ r → x ≢ k → not (is_eq r) ≡ true
      apart r is other = grind (arith, exact x k, other)

      back : Contains ks x × (x ≢ k) → Contains (without R k ks) x
      back (c, other) = contains-filter (λ y. not (is_eq (R y k))) ks x c (apart (R x k) refl other)

  -- Where it stands.

  -- of a list in order that has the key at a place
  pub found-at : (k : K) (ks : List K) (i : ℕ) (d : K) → IsStrictlySortedBy R ks → i < length ks → get_or ks i d ≡ k → (with R k ks ≡ ks) × (without R k ks ≡ remove ks i)
  unfolding IsStrictlySortedBy
  found-at k [] i d up lt is = absurd (omega (arith, lt))
  found-at k (x ∷ xs) zero d up lt is =
      let same : R x k ≡ Equal = ap (λ y. R y k) is ∙ tied_itself o k in
      let back : R k x ≡ Equal = turned R o x k Equal same in
      grind (arith, ints, nat_tests, filter-none, is_lt, all-map, turned, filter-all, not, is_eq, back)
  found-at k (x ∷ xs) (suc i) d up lt is =
      let there : R x k ≡ Less = subst (λ (z : K). R x z ≡ Less) is (All-from_recursion (λ y. R x y ≡ Less) xs up.0 i d (omega (arith, lt))) in
      let back : R k x ≡ Greater = turned R o x k Less there in
      grind (arith, ints, nat_tests, there, back, (found-at k xs i d up.1 (omega (arith, lt)) is))

  -- a key that is there already adds nothing
  pub with-again : (k : K) (ks : List K) → IsStrictlySortedBy R ks → Contains ks k → with R k ks ≡ ks
  with-again k ks up c = (found-at k ks c.0 k up c.1 c.2).0
