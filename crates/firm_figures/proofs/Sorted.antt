-- A stable sort gives the list in order, and counts of what passes a test.
use Rattle.firm_figures.proofs.Names.{◌≡◌, ℕ, zero, suc, ◌+◌, ◌-◌, ◌<◌, ◌≤◌, Bool, true, false, not, cond, List, [], ◌∷◌, length, get_or, refl, sym, ap, ◌∙◌, subst, arith, ◌&&◌, nat_lt, nat_tests, common_steps, IsStrictWeakOrder, AllByRecursion, filter, IsSortedBy, IsStableBy, ties, recursion_from_All, sorted_far, all-map, put_in_order, in_order}

module _ {X : Type 0} (lt : X → X → Bool) (o : IsStrictWeakOrder lt) where
  abbrev pub Up : List X → Type 0
  Up [] = Unit {0}
  Up (x ∷ xs) = AllByRecursion (λ y. lt y x ≡ false) xs × Up xs

  itself : (x : X) → lt x x ≡ false
  itself x = cases (lt x x) refl
    where
      cases : (b : Bool) → lt x x ≡ b → b ≡ false
      cases true is = sym is ∙ o.one_way x x is
      cases false is = refl

  ties-itself : (x : X) → ties lt x x ≡ true
  ties-itself x = rw (itself x) refl

  put-all : (P : X → Type 0) (x : X) (ys : List X) → P x → AllByRecursion P ys → AllByRecursion P (put_in_order lt x ys)
  put-all P x [] one all = (one, tt)
  put-all P x (y ∷ ys) one all = cases (lt y x) (put-all P x ys one all.1)
    where
      cases : (b : Bool) → AllByRecursion P (put_in_order lt x ys) → AllByRecursion P (cond b (y ∷ put_in_order lt x ys) (x ∷ y ∷ ys))
      cases true more = (all.0, more)
      cases false more = (one, all)

  put-up : (x : X) (ys : List X) → Up ys → Up (put_in_order lt x ys)
  put-up x [] up = (tt, tt)
  put-up x (y ∷ ys) up = cases (lt y x) refl (put-up x ys up.1)
    where
      cases : (b : Bool) → lt y x ≡ b → Up (put_in_order lt x ys) → Up (cond b (y ∷ put_in_order lt x ys) (x ∷ y ∷ ys))
      cases true is more = (put-all (λ w. lt w y ≡ false) x ys (o.one_way y x is) up.0, more)
      cases false is more = ((is, all-map (λ w. lt w y ≡ false) (λ w. lt w x ≡ false) ys (λ w h. o.chain w y x h is) up.0), up)

  pub in_order-up : (xs : List X) → Up (in_order lt xs)
  in_order-up [] = tt
  in_order-up (x ∷ xs) = put-up x (in_order lt xs) (in_order-up xs)

  apart : (a b : Bool) → (not a && not b) ≡ true → (a ≡ false) × (b ≡ false)
  apart a b is = (grind arith, grind arith)

  -- two that tie with one tie with one another
  never : (k x y : X) → ties lt k x ≡ true → ties lt k y ≡ true → lt y x ≡ false
  never k x y one other = o.chain y k x (apart (lt k y) (lt y k) other).1 (apart (lt k x) (lt x k) one).0

  put-ties : (k x : X) (ys : List X) → filter (ties lt k) (put_in_order lt x ys) ≡ cond (ties lt k x) (x ∷ filter (ties lt k) ys) (filter (ties lt k) ys)
  put-ties k x [] = refl
  put-ties k x (y ∷ ys) = cases (lt y x) (ties lt k y) (ties lt k x) refl refl refl (put-ties k x ys)
    where
      cases : (b c d : Bool) → lt y x ≡ b → ties lt k y ≡ c → ties lt k x ≡ d → filter (ties lt k) (put_in_order lt x ys) ≡ cond d (x ∷ filter (ties lt k) ys) (filter (ties lt k) ys) → filter (ties lt k) (cond b (y ∷ put_in_order lt x ys) (x ∷ y ∷ ys)) ≡ cond d (x ∷ cond c (y ∷ filter (ties lt k) ys) (filter (ties lt k) ys)) (cond c (y ∷ filter (ties lt k) ys) (filter (ties lt k) ys))
      cases true true true is ty tx more = absurd (let h = never k x y tx ty in cc)
      cases true true false is ty tx more = rw ty (ap (λ zs. y ∷ zs) more)
      cases true false true is ty tx more = rw ty more
      cases true false false is ty tx more = rw ty more
      cases false c d is ty tx more = rw (tx, ty) refl

  in_order-ties : (k : X) (xs : List X) → filter (ties lt k) (in_order lt xs) ≡ filter (ties lt k) xs
  in_order-ties k [] = refl
  in_order-ties k (x ∷ xs) = put-ties k x (in_order lt xs) ∙ ap (λ zs. cond (ties lt k x) (x ∷ zs) zs) (in_order-ties k xs)

  -- what stands in front of those that tie with it in a list in order is before none of it
  front-least : (k z : X) (zs fs : List X) → AllByRecursion (λ w. lt w z ≡ false) zs → (y : X) → filter (ties lt k) zs ≡ y ∷ fs → (lt y z ≡ false)
  front-least k z [] fs all y is = absurd (cc)
  front-least k z (w ∷ zs) fs all y is = cases (ties lt k w) is (front-least k z zs fs all.1 y)
    where
      cases : (b : Bool) → cond b (w ∷ filter (ties lt k) zs) (filter (ties lt k) zs) ≡ y ∷ fs → (filter (ties lt k) zs ≡ y ∷ fs → lt y z ≡ false) → lt y z ≡ false
      cases true is rest = let same : w ≡ y = cc in subst (λ v. lt v z ≡ false) same all.0
      cases false is rest = rest is

  -- two lists in order are one where those that tie stand alike
  ordered-one : (ys zs : List X) → Up ys → Up zs → ((k : X) → filter (ties lt k) ys ≡ filter (ties lt k) zs) → ys ≡ zs
  ordered-one [] [] a b same = refl
  ordered-one [] (z ∷ zs) a b same = absurd (let t = ties-itself z in let h = same z in (let g : filter (ties lt z) [] ≡ z ∷ filter (ties lt z) zs = h ∙ rw t refl in cc))
  ordered-one (y ∷ ys) [] a b same = absurd (let t = ties-itself y in let h = same y in (let g : y ∷ filter (ties lt y) ys ≡ [] = (rw t refl) ∙ h in cc))
  ordered-one (y ∷ ys) (z ∷ zs) a b same = (λ i. head i ∷ ordered-one ys zs a.1 b.1 tails i)
    where
      mine : y ∷ filter (ties lt y) ys ≡ filter (ties lt y) (z ∷ zs)
      mine = let h = same y in let t = ties-itself y in (let g : y ∷ filter (ties lt y) ys ≡ filter (ties lt y) (y ∷ ys) = rw t refl in g ∙ h)

      theirs : filter (ties lt z) (y ∷ ys) ≡ z ∷ filter (ties lt z) zs
      theirs = let h = same z in let t = ties-itself z in (let g : filter (ties lt z) (z ∷ zs) ≡ z ∷ filter (ties lt z) zs = rw t refl in h ∙ g)

      not-before : lt y z ≡ false
      not-before = front-least y z (z ∷ zs) (filter (ties lt y) ys) (itself z, b.0) y (sym mine)

      not-behind : lt z y ≡ false
      not-behind = front-least z y (y ∷ ys) (filter (ties lt z) zs) (itself y, a.0) z theirs

      tie : ties lt y z ≡ true
      tie = rw (not-before, not-behind) refl

      head : y ≡ z
      head = let g : y ∷ filter (ties lt y) ys ≡ z ∷ filter (ties lt y) zs = mine ∙ rw tie refl in cc

      tails : (k : X) → filter (ties lt k) ys ≡ filter (ties lt k) zs
      tails k = cases (ties lt k y) refl (same k)
        where
          cases : (b : Bool) → ties lt k y ≡ b → cond (ties lt k y) (y ∷ filter (ties lt k) ys) (filter (ties lt k) ys) ≡ cond (ties lt k z) (z ∷ filter (ties lt k) zs) (filter (ties lt k) zs) → filter (ties lt k) ys ≡ filter (ties lt k) zs
          cases true is alike = let other : ties lt k z ≡ true = ap (ties lt k) (sym head) ∙ is in (let g : y ∷ filter (ties lt k) ys ≡ z ∷ filter (ties lt k) zs = rw is at (rw other at alike) in cc)
          cases false is alike = let other : ties lt k z ≡ false = ap (ties lt k) (sym head) ∙ is in rw is at (rw other at alike)

  sorted-up : (xs : List X) → IsSortedBy lt xs → Up xs
  sorted-up [] up = tt
  sorted-up (x ∷ xs) up = (recursion_from_All (λ y. lt y x ≡ false) xs (λ k d h. sorted_far lt o (x ∷ xs) up 0 (suc k) d (omega arith) (omega (arith, h))), sorted-up xs (λ k d low h. sorted_far lt o (x ∷ xs) up (suc k) (suc (k + 1)) d (omega arith) (omega (arith, h))))

  -- what a stable sort leaves is the list in order
  pub sorted-is : (xs ys : List X) → IsSortedBy lt ys → IsStableBy lt xs ys → ys ≡ in_order lt xs
  sorted-is xs ys up stable = ordered-one ys (in_order lt xs) (sorted-up ys up) (in_order-up xs) (λ k. stable k ∙ sym (in_order-ties k xs))

-- How many pass a test.

module _ {X : Type 0} (p : X → Bool) where
  count-none : (xs : List X) (d : X) → ((j : ℕ) → j < length xs → p (get_or xs j d) ≡ false) → length (filter p xs) ≡ 0
  count-none [] d none = refl
  count-none (x ∷ xs) d none = rw (none 0 (omega arith)) (count-none xs d (λ j h. none (suc j) (omega (arith, h))))

  more-one : (b : Bool) (x : X) (xs : List X) (n : ℕ) → n ≤ length xs → n ≤ length (cond b (x ∷ xs) xs)
  more-one b x xs n le = grind arith

  count-some : (xs : List X) (i : ℕ) (d : X) → i < length xs → p (get_or xs i d) ≡ true → 1 ≤ length (filter p xs)
  count-some [] i d h is = absurd (omega (arith, h))
  count-some (x ∷ xs) zero d h is = rw is (omega arith)
  count-some (x ∷ xs) (suc i) d h is = more-one (p x) x (filter p xs) 1 (count-some xs i d (omega (arith, h)) is)

  pub count-two : (xs : List X) (i j : ℕ) (d : X) → i < j → j < length xs → p (get_or xs i d) ≡ true → p (get_or xs j d) ≡ true → 2 ≤ length (filter p xs)
  count-two [] i j d lt h one other = absurd (omega (arith, h))
  count-two (x ∷ xs) i zero d lt h one other = absurd (omega (arith, lt))
  count-two (x ∷ xs) zero (suc j) d lt h one other = rw one (let more = count-some xs j d (omega (arith, h)) other in omega (arith, more))
  count-two (x ∷ xs) (suc i) (suc j) d lt h one other = more-one (p x) x (filter p xs) 2 (count-two xs i j d (omega (arith, lt)) (omega (arith, h)) one other)

  pub count-one : (xs : List X) (i : ℕ) (d : X) → i < length xs → ((j : ℕ) → j < length xs → (j ≡ i → ⊥) → p (get_or xs j d) ≡ false) → length (filter p xs) ≤ 1
  count-one [] i d h none = omega arith
  count-one (x ∷ xs) zero d h none = cases (p x) (count-none xs d (λ j h. none (suc j) (omega (arith, h)) (λ e. omega (arith, e))))
    where
      cases : (b : Bool) → length (filter p xs) ≡ 0 → length (cond b (x ∷ filter p xs) (filter p xs)) ≤ 1
      cases b more = grind arith
  count-one (x ∷ xs) (suc i) d h none = rw (none 0 (omega arith) (λ e. omega (arith, e))) (count-one xs i d (omega (arith, h)) (λ j l n. none (suc j) (omega (arith, l)) (λ e. n (omega (arith, e)))))

  -- a list in order has as many
  put-counted : (b c d : Bool) (x y : X) (zs ys : List X) → p x ≡ c → p y ≡ d → length (filter p zs) ≡ length (cond c (x ∷ filter p ys) (filter p ys)) → length (filter p (cond b (y ∷ zs) (x ∷ y ∷ ys))) ≡ length (cond c (x ∷ cond d (y ∷ filter p ys) (filter p ys)) (cond d (y ∷ filter p ys) (filter p ys)))
  put-counted b c d x y zs ys px py more = grind (arith, common_steps)

  count-put : (lt : X → X → Bool) (x : X) (ys : List X) → length (filter p (put_in_order lt x ys)) ≡ length (filter p (x ∷ ys))
  count-put lt x [] = refl
  count-put lt x (y ∷ ys) = put-counted (lt y x) (p x) (p y) x y (put_in_order lt x ys) ys refl refl (count-put lt x ys)

  pub count-ordered : (lt : X → X → Bool) (xs : List X) → length (filter p (in_order lt xs)) ≡ length (filter p xs)
  count-ordered lt [] = refl
  count-ordered lt (x ∷ xs) = count-put lt x (in_order lt xs) ∙ again (p x) (count-ordered lt xs)
    where
      again : (b : Bool) → length (filter p (in_order lt xs)) ≡ length (filter p xs) → length (cond b (x ∷ filter p (in_order lt xs)) (filter p (in_order lt xs))) ≡ length (cond b (x ∷ filter p xs) (filter p xs))
      again b more = grind arith

-- Neighbours.

module _ {X : Type 0} (lt : X → X → Bool) (o : IsStrictWeakOrder lt) (same : X → X → Bool) (alike : (x : X) → same x x ≡ true) (between : (x y z : X) → lt y x ≡ false → lt z y ≡ false → same x z ≡ true → (same x y ≡ true) × (same y z ≡ true)) (back : (x y : X) → same x y ≡ same y x) where
  no-lower : (xs : List X) → IsSortedBy lt xs → (i j : ℕ) (d : X) → i < length xs → j < i → same (get_or xs (i - 1) d) (get_or xs i d) ≡ false → same (get_or xs j d) (get_or xs i d) ≡ false
  no-lower xs up i j d h below not_near = cases (same (get_or xs j d) (get_or xs i d)) refl
    where
      cases : (b : Bool) → same (get_or xs j d) (get_or xs i d) ≡ b → b ≡ false
      cases false is = refl
      cases true is = sym (between (get_or xs j d) (get_or xs (i - 1) d) (get_or xs i d) (sorted_far lt o xs up j (i - 1) d (omega (arith, below)) (omega (arith, below, h))) (sorted_far lt o xs up (i - 1) i d (omega (arith, below)) h) is).1 ∙ not_near

  no-higher : (xs : List X) → IsSortedBy lt xs → (i j : ℕ) (d : X) → i < j → j < length xs → same (get_or xs i d) (get_or xs (i + 1) d) ≡ false → same (get_or xs i d) (get_or xs j d) ≡ false
  no-higher xs up i j d above h not_near = cases (same (get_or xs i d) (get_or xs j d)) refl
    where
      cases : (b : Bool) → same (get_or xs i d) (get_or xs j d) ≡ b → b ≡ false
      cases false is = refl
      cases true is = sym (between (get_or xs i d) (get_or xs (i + 1) d) (get_or xs j d) (sorted_far lt o xs up i (i + 1) d (omega arith) (omega (arith, above, h))) (sorted_far lt o xs up (i + 1) j d (omega (arith, above)) h) is).0 ∙ not_near

  pub alone : (xs : List X) → IsSortedBy lt xs → (i : ℕ) (d : X) → i < length xs → (0 < i → same (get_or xs (i - 1) d) (get_or xs i d) ≡ false) → (i + 1 < length xs → same (get_or xs i d) (get_or xs (i + 1) d) ≡ false) → length (filter (same (get_or xs i d)) xs) ≤ 1
  alone xs up i d h low high = count-one (same (get_or xs i d)) xs i d h others
    where
      others : (j : ℕ) → j < length xs → (j ≡ i → ⊥) → same (get_or xs i d) (get_or xs j d) ≡ false
      others j l n = cases (nat_lt j i) refl
        where
          cases : (b : Bool) → nat_lt j i ≡ b → same (get_or xs i d) (get_or xs j d) ≡ false
          cases true is = let below : j < i =
              grind (arith, nat_tests) in back (get_or xs i d) (get_or xs j d) ∙ no-lower xs up i j d h below (low (omega (arith, below)))
          cases false is = let above : i < j =
              grind (arith, nat_tests) in no-higher xs up i j d above l (high (omega (arith, above, l)))

  pub has-below : (xs : List X) (i : ℕ) (d : X) → 0 < i → i < length xs → same (get_or xs (i - 1) d) (get_or xs i d) ≡ true → 2 ≤ length (filter (same (get_or xs i d)) xs)
  has-below xs i d some h near = count-two (same (get_or xs i d)) xs (i - 1) i d (omega (arith, some)) h (back (get_or xs i d) (get_or xs (i - 1) d) ∙ near) (alike (get_or xs i d))

  pub has-above : (xs : List X) (i : ℕ) (d : X) → i + 1 < length xs → same (get_or xs i d) (get_or xs (i + 1) d) ≡ true → 2 ≤ length (filter (same (get_or xs i d)) xs)
  has-above xs i d h near = count-two (same (get_or xs i d)) xs i (i + 1) d (omega arith) h (alike (get_or xs i d)) near
