-- Rows in order, one after the other: matters rise, and no head follows a row of its own matter.
use Rattle.firm_figures.proofs.Names.{◌≡◌, ℕ, ◌+◌, ◌<◌, ◌≤◌, Bool, true, false, cond, List, [], ◌∷◌, ◌++◌, refl, sym, ap, ◌∙◌, subst, arith, nat_lt, ◌==◌, filter, AllByRecursion, nat_tests, recursion_from_All, filter_passes, Seat, Entry, Rows, Row, HeadRow, SeatRow, EntryRow, Firm, of, pairs, head_pairs, seat_pairs, entry_pairs, IsInOrder, passing, own-put, all-append}

abbrev pub is_head : Row → Bool
is_head (HeadRow h) = true
is_head (SeatRow s) = false
is_head (EntryRow n e) = false

-- a later row is of no lesser matter, and a later head of a greater
abbrev pub After : ℕ → ℕ × Row → Type 0
After m q = (m ≤ q.0) × (is_head q.1 ≡ true → m < q.0)

abbrev pub Tidy : List (ℕ × Row) → Type 0
Tidy [] = Unit {0}
Tidy (p ∷ xs) = AllByRecursion (After p.0) xs × Tidy xs

-- What a filter says of a list.
module _ {A : Type 0} where
  none-passes : (t : A → Bool) (xs : List A) → filter t xs ≡ [] → AllByRecursion (λ x. t x ≡ false) xs
  none-passes t [] is = tt
  none-passes t (x ∷ xs) is = cases (t x) refl is (none-passes t xs)
    where
      cases : (b : Bool) → t x ≡ b → cond b (x ∷ filter t xs) (filter t xs) ≡ [] → (filter t xs ≡ [] → AllByRecursion (λ x. t x ≡ false) xs) → (t x ≡ false) × AllByRecursion (λ x. t x ≡ false) xs
      cases true at is rest = absurd (cc)
      cases false at is rest = (at, rest is)

  of-passing : (Q : A → Type 0) (t : A → Bool) (xs : List A) → AllByRecursion Q (filter t xs) → AllByRecursion (λ x. t x ≡ true → Q x) xs
  of-passing Q t [] all = tt
  of-passing Q t (x ∷ xs) all = cases (t x) refl all (of-passing Q t xs)
    where
      cases : (b : Bool) → t x ≡ b → AllByRecursion Q (cond b (x ∷ filter t xs) (filter t xs)) → (AllByRecursion Q (filter t xs) → AllByRecursion (λ x. t x ≡ true → Q x) xs) → (t x ≡ true → Q x) × AllByRecursion (λ x. t x ≡ true → Q x) xs
      cases true at all rest = (λ h. all.0, rest all.1)
      cases false at all rest = ((λ h. absurd (cc)), rest all)

  both : (P Q R : A → Type 0) (xs : List A) → ((x : A) → P x → Q x → R x) → AllByRecursion P xs → AllByRecursion Q xs → AllByRecursion R xs
  both P Q R [] f ps qs = tt
  both P Q R (x ∷ xs) f ps qs = (f x ps.0 qs.0, both P Q R xs f ps.1 qs.1)

-- The rows of matter k stand behind those of lesser ones and before those of greater.
abbrev lesser : ℕ → List (ℕ × Row) → List (ℕ × Row)
lesser k xs = passing (λ x. nat_lt x k) xs

abbrev own : ℕ → List (ℕ × Row) → List (ℕ × Row)
own k xs = passing (λ x. x == k) xs

abbrev greater : ℕ → List (ℕ × Row) → List (ℕ × Row)
greater k xs = passing (λ x. nat_lt k x) xs

abbrev Parted : ℕ → List (ℕ × Row) → Type 0
Parted k xs = lesser k xs ++ (own k xs ++ greater k xs) ≡ xs

abbrev NoHeads : List (ℕ × Row) → Type 0
NoHeads xs = AllByRecursion (λ q. is_head q.1 ≡ false) xs

-- at most the first is a head
abbrev FirstHead : List (ℕ × Row) → Type 0
FirstHead [] = Unit {0}
FirstHead (x ∷ xs) = NoHeads xs

-- of lists whose elements pass different tests
lesser-first : (k : ℕ) (p : ℕ × Row) (xs : List (ℕ × Row)) (ys zs : List (ℕ × Row)) → k ≤ p.0 → AllByRecursion (λ q. nat_lt q.0 k ≡ true) xs → xs ++ ys ≡ p ∷ zs → xs ≡ []
lesser-first k p [] ys zs le all is = refl
lesser-first k p (x ∷ xs) ys zs le all is = grind (arith, nat_tests)

own-first : (k : ℕ) (p : ℕ × Row) (xs : List (ℕ × Row)) (ys zs : List (ℕ × Row)) → k < p.0 → AllByRecursion (λ q. (q.0 == k) ≡ true) xs → xs ++ ys ≡ p ∷ zs → xs ≡ []
own-first k p [] ys zs lt all is = refl
own-first k p (x ∷ xs) ys zs lt all is = grind (arith, nat_tests)

passes : (t : ℕ → Bool) (xs : List (ℕ × Row)) → AllByRecursion (λ q. t q.0 ≡ true) (passing t xs)
passes t xs = recursion_from_All _ _ (filter_passes (λ (q : ℕ × Row). t q.0) xs)

-- where a list begins, that part of it does
tail-same : (p : ℕ × Row) (xs ys : List (ℕ × Row)) → (p ∷ xs) ≡ (p ∷ ys) → xs ≡ ys
tail-same p xs ys is = cc

parted-tail : (k : ℕ) (p : ℕ × Row) (xs : List (ℕ × Row)) → Parted k (p ∷ xs) → Parted k xs
parted-tail k p xs is = cases (nat_lt p.0 k) (p.0 == k) (nat_lt k p.0) refl refl refl is
  where
    cases : (a b c : Bool) → nat_lt p.0 k ≡ a → (p.0 == k) ≡ b → nat_lt k p.0 ≡ c → cond a (p ∷ lesser k xs) (lesser k xs) ++ (cond b (p ∷ own k xs) (own k xs) ++ cond c (p ∷ greater k xs) (greater k xs)) ≡ p ∷ xs → Parted k xs
    cases true false false a b c is = tail-same p _ _ is
    cases false true false a b c is =
        let none = lesser-first k p (lesser k xs) (p ∷ (own k xs ++ greater k xs)) xs (grind (arith, nat_tests)) (passes (λ x. nat_lt x k) xs) is in
        let rest : own k xs ++ greater k xs ≡ xs = tail-same p _ _ (ap (λ ys. ys ++ (p ∷ (own k xs ++ greater k xs))) (sym none) ∙ is) in
        ap (λ ys. ys ++ (own k xs ++ greater k xs)) none ∙ rest
    cases false false true a b c is =
        let none = lesser-first k p (lesser k xs) (own k xs ++ (p ∷ greater k xs)) xs (grind (arith, nat_tests)) (passes (λ x. nat_lt x k) xs) is in
        let behind : own k xs ++ (p ∷ greater k xs) ≡ p ∷ xs = ap (λ ys. ys ++ (own k xs ++ (p ∷ greater k xs))) (sym none) ∙ is in
        let none_own = own-first k p (own k xs) (p ∷ greater k xs) xs (grind (arith, nat_tests)) (passes (λ x. x == k) xs) behind in
        let rest : greater k xs ≡ xs = tail-same p _ _ (ap (λ ys. ys ++ (p ∷ greater k xs)) (sym none_own) ∙ behind) in
        (λ i. none i ++ (none_own i ++ greater k xs)) ∙ rest
    cases true true c a b c' is = absurd (grind (arith, nat_tests))
    cases true false true a b c' is = absurd (grind (arith, nat_tests))
    cases false true true a b c' is = absurd (grind (arith, nat_tests))
    cases false false false a b c' is = absurd (grind (arith, nat_tests))

later : (xs : List (ℕ × Row)) → NoHeads xs → FirstHead xs
later xs none = grind (arith, nat_tests)

first-tail : (k : ℕ) (p : ℕ × Row) (xs : List (ℕ × Row)) → FirstHead (own k (p ∷ xs)) → FirstHead (own k xs)
first-tail k p xs first = grind (arith, nat_tests, later)

tidy-from : (xs : List (ℕ × Row)) → ((k : ℕ) → Parted k xs) → ((k : ℕ) → FirstHead (own k xs)) → Tidy xs
tidy-from [] parted first = tt
tidy-from (p ∷ xs) parted first = (front, tidy-from xs (λ k. parted-tail k p xs (parted k)) (λ k. first-tail k p xs (first k)))
  where
    m-itself : (p.0 == p.0) ≡ true
    m-itself = grind (arith, nat_tests)

    not-lesser : nat_lt p.0 p.0 ≡ false
    not-lesser = grind (arith, nat_tests)

    none : lesser p.0 xs ≡ []
    none =
        let is = parted p.0 in
        lesser-first p.0 p (lesser p.0 xs) (own p.0 (p ∷ xs) ++ greater p.0 (p ∷ xs)) xs (omega arith) (passes (λ x. nat_lt x p.0) xs) (ap (λ b. cond b (p ∷ lesser p.0 xs) (lesser p.0 xs) ++ (own p.0 (p ∷ xs) ++ greater p.0 (p ∷ xs))) (sym not-lesser) ∙ is)

    no-heads : NoHeads (own p.0 xs)
    no-heads = subst (λ b. FirstHead (cond b (p ∷ own p.0 xs) (own p.0 xs))) m-itself (first p.0)

    after : (q : ℕ × Row) → nat_lt q.0 p.0 ≡ false → ((q.0 == p.0) ≡ true → is_head q.1 ≡ false) → After p.0 q
    after q low at = (grind (arith, nat_tests), λ head. apart (q.0 == p.0) refl head)
      where
        apart : (b : Bool) → (q.0 == p.0) ≡ b → is_head q.1 ≡ true → p.0 < q.0
        apart true same head = absurd (let no = at same in (cc))
        apart false other head = grind (arith, nat_tests)

    front : AllByRecursion (After p.0) xs
    front = both (λ q. nat_lt q.0 p.0 ≡ false) (λ q. (q.0 == p.0) ≡ true → is_head q.1 ≡ false) (After p.0) xs after (none-passes (λ q. nat_lt q.0 p.0) xs none) (of-passing (λ q. is_head q.1 ≡ false) (λ q. q.0 == p.0) xs no-heads)

-- The rows of a firm in order.

no-seats : (m : ℕ) (ss : List Seat) → NoHeads (seat_pairs m ss)
no-seats m [] = tt
no-seats m (s ∷ ss) = (refl, no-seats m ss)

no-entries : (m n : ℕ) (es : List Entry) → NoHeads (entry_pairs m n es)
no-entries m n [] = tt
no-entries m n (e ∷ es) = (refl, no-entries m (n + 1) es)

first-pairs : (m : ℕ) (rows : Rows) → FirstHead (pairs m rows)
first-pairs m rows = grind (arith, nat_tests, all-append, no-seats, no-entries, head_pairs, later)

pub ordered-tidy : (firm : Firm) → IsInOrder firm → Tidy firm.rows
ordered-tidy firm order =
    let mine : (k : ℕ) → own k firm.rows ≡ pairs k (of k firm) = λ k. ap (own k) (sym (order.rows k)) ∙ own-put k (of k firm) firm.rows in
    tidy-from firm.rows
    (λ k. ap (λ ys. lesser k firm.rows ++ (ys ++ greater k firm.rows)) (mine k) ∙ order.rows k)
    (λ k. subst FirstHead (sym (mine k)) (first-pairs k (of k firm)))
