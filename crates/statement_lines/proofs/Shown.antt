-- All entries that a line shows are found by its marks.
use Rattle.statement_lines.proofs.Names.{◌≡◌, ◌∙◌, sym, ap, subst, ℕ, zero, suc, ◌+◌, ◌-◌, ◌<◌, ◌≤◌, ◌==◌, Bool, true, false, cond, List, [], ◌∷◌, ◌++◌, length, get_or, take, map, refl, inl, inr, arith, cases_Bool, option_to_list, slice_get, AllPairs, Contains, filter, flat_map, list_any, IsStrictlyIncreasing, bytes_eq, and_parts, eqb-true, eq-eqb, nat_tests, bytes_eq-Decides, Contains-append_left, Contains-append_right, Line, text_key, entry_marks, is_shown, line_marks, mark_of, marks_at, marks_from, reference_mark, window_marks, is_among, line_numbers, begins_with_reference, has_reference, shows, Waiting, BookEntry, ints}
use Rattle.std.proofs.lemmas.List.Folds.{Any-from_list_any}
use Rattle.std.proofs.lemmas.List.Kept.{AllPairs-from_increasing}
use Rattle.std.proofs.lemmas.Map.Made.{Contains-tail}
use Rattle.statement_lines.specs.Places.{places_with}
use Rattle.statement_lines.proofs.Members.{filter_has, flat_map_has, later, map_has}

-- The elements at rising places, among which are those of all that pass.

-- each is above the one before, and the first is not below n
abbrev Rise : ℕ → List ℕ → Type 0
Rise n [] = n ≤ n
Rise n (p ∷ ps) = (n ≤ p) × Rise (p + 1) ps

rise_from : (n : ℕ) (ps : List ℕ) → ((d : ℕ) → 0 < length ps → n ≤ get_or ps 0 d) → AllPairs (λ x y. x < y) ps
    → Rise n ps
rise_from n [] first pairs = omega arith
rise_from n (p ∷ ps) first pairs = (
  first p (omega arith),
  rise_from (p + 1) ps
      (λ d lt. let above : p < get_or ps 0 d = pairs 0 1 d (omega arith) (omega (arith, lt)) in omega (arith, above))
      (λ i j d lt l. pairs (suc i) (suc j) d (omega (arith, lt)) (omega (arith, l))),
)

rise_above : (n : ℕ) (ps : List ℕ) (m : ℕ) → Rise n ps → Contains ps m → n ≤ m
rise_above n [] m rise (k, lt, is) = absurd (omega (arith, lt))
rise_above n (p ∷ ps) m rise (zero, lt, is) = let above = rise.0 in omega (arith, is, above)
rise_above n (p ∷ ps) m rise (suc k, lt, is) = grind (arith, nat_tests, (rise_above (p + 1) ps m rise.1))

-- nothing is there past the end
none_there : {X : Type 0} (f : ℕ → List X) (n : ℕ) (ps : List ℕ) → ((m : ℕ) → n ≤ m → f m ≡ []) → Rise n ps
    → flat_map f ps ≡ []
none_there f n [] none rise = refl
none_there {X} f n (p ∷ ps) none rise = grind (arith, nat_tests, (none_there f (p + 1) ps))

none_passes : {X : Type 0} (q : X → Bool) (xs : List X)
    → ((i : ℕ) (d : X) → i < length xs → q (get_or xs i d) ≡ true → ⊥) → filter q xs ≡ []
none_passes q [] none = refl
none_passes q (x ∷ xs) none = elim (cases_Bool (q x)) [
  | inl hit ↦ absurd (none 0 x (omega arith) hit)
  | inr miss ↦ rw miss (none_passes q xs (λ i d lt hit. none (suc i) d (omega (arith, lt)) hit))
]

not_among_none : (m : ℕ) → Contains [] m → ⊥
not_among_none m (k, lt, is) = omega (arith, lt)

module _ {X : Type 0} (q : X → Bool) (f : ℕ → List X) where
  -- where all that pass from place n on are at these places, they are what passes there
  abbrev Kept : ℕ → List X → List ℕ → Type 0
  Kept n xs places =
      Rise n places → ((i : ℕ) (d : X) → i < length xs → q (get_or xs i d) ≡ true → Contains places (n + i))
      → filter q (flat_map f places) ≡ filter q xs

  kept : (n : ℕ) (xs : List X) (ps : List ℕ) → ((i : ℕ) → f (n + i) ≡ option_to_list (slice_get xs i)) → Kept n xs ps
  kept n xs [] there rise all = grind (arith, ints, nat_tests, none_passes, not_among_none)
  kept n [] (p ∷ ps) there rise all =
      ap (filter q)
      (none_there f n (p ∷ ps)
      (λ m l. let e : m ≡ n + (m - n) = omega (arith, l) in ap f e ∙ there (m - n)) rise)
  kept n (x ∷ xs) (p ∷ ps) there rise all =
      cases (p == n) refl (kept (n + 1) xs ps next) (kept (n + 1) xs (p ∷ ps) next)
    where
      next : (i : ℕ) → f (n + 1 + i) ≡ option_to_list (slice_get xs i)
      next i = let e : n + 1 + i ≡ n + suc i = omega arith in ap f e ∙ there (suc i)

      moved : (rest : List ℕ) (i : ℕ) → Contains rest (n + suc i) → Contains rest (n + 1 + i)
      moved rest i h = let g : n + suc i ≡ n + 1 + i = omega arith in subst (λ (m : ℕ). Contains rest m) g h

      first_misses : n + 1 ≤ p → (b : Bool) → q x ≡ b → b ≡ false
      first_misses above true hit =
          let low = rise_above (n + 1) (p ∷ ps) (n + 0) (above, rise.1) (all 0 x (omega arith) hit) in
          absurd (omega (arith, low))
      first_misses above false miss = refl

      cases : (b : Bool) → (p == n) ≡ b → Kept (n + 1) xs ps → Kept (n + 1) xs (p ∷ ps)
          → filter q (f p ++ flat_map f ps) ≡ filter q (x ∷ xs)
      cases true same here behind =
          let number : p ≡ n = eqb-true p n same in
          let e : p ≡ n + 0 = omega (arith, number) in
          ap (λ (ys : List X). filter q (ys ++ flat_map f ps)) (ap f e ∙ there 0)
          ∙ ap (λ (ys : List X). cond (q x) (x ∷ ys) ys)
          (here (subst (λ (m : ℕ). Rise (m + 1) ps) number rise.1)
          (λ i d lt hit.
          moved ps i (Contains-tail p ps (n + suc i) (λ h. omega (arith, h, e)) (all (suc i) d (omega (arith, lt)) hit))))
      cases false other here behind =
          let low = rise.0 in
          let above : n + 1 ≤ p = grind (arith, nat_tests, low, other) in
          behind (above, rise.1) (λ i d lt hit. moved (p ∷ ps) i (all (suc i) d (omega (arith, lt)) hit))
          ∙ sym (ap (λ (b : Bool). cond b (x ∷ filter q xs) (filter q xs)) (first_misses above (q x) refl))

-- A mark in common.

reference_in : (reference text : List ℕ) → length reference ≡ 12 → has_reference reference text ≡ true
    → Contains (window_marks text) (text_key 0 reference)
unfolding has_reference begins_with_reference window_marks
reference_in reference [] long hit = absurd (cc)
reference_in reference (b ∷ rest) long hit = elim (cases_Bool (begins_with_reference reference (b ∷ rest))) [
  | inl begins ↦
      let starts = and_parts _ _ begins in
      let same : reference ≡ take (length reference) (b ∷ rest) =
      (bytes_eq-Decides reference (take (length reference) (b ∷ rest))).0 starts.0 in
      let front : reference ≡ take 12 (b ∷ rest) = same ∙ ap (λ (n : ℕ). take n (b ∷ rest)) long in
      (zero, omega arith, ap (text_key 0) (sym front))
  | inr other ↦
      let more : has_reference reference rest ≡ true = cc in
      later (text_key 0 (take 12 (b ∷ rest))) (text_key 0 reference) (window_marks rest) (reference_in reference rest long more)
]

reference_shared : (line : Line) (w : Waiting) → has_reference w.reference line.text ≡ true
    → Contains (line_marks line) (reference_mark w.reference)
reference_shared line w hit = elim (cases_Bool (length w.reference == 12)) [
  | inl long ↦
      rw long
      (later 0 (text_key 0 w.reference) (map (text_key 0) (line_numbers line) ++ window_marks line.text)
      (Contains-append_right (map (text_key 0) (line_numbers line)) (window_marks line.text) (text_key 0 w.reference)
      (reference_in w.reference line.text (eqb-true (length w.reference) 12 long) hit)))
  | inr other ↦ rw other (zero, omega arith, refl)
]

number_shared : (line : Line) (w : Waiting) → list_any (is_among w.numbers) (line_numbers line) ≡ true
    → (k : ℕ) × Contains (line_marks line) k × Contains (entry_marks w) k
number_shared line w hit =
    let own = Any-from_list_any (is_among w.numbers) (line_numbers line) hit in
    let number = own.1 in
    let its = Any-from_list_any (bytes_eq number) w.numbers own.4 in
    let same : number ≡ its.1 = (bytes_eq-Decides number its.1).0 its.4 in
    let mark = text_key 0 number in
    let there : Contains (map (text_key 0) w.numbers) mark =
    subst (λ (n : List ℕ). Contains (map (text_key 0) w.numbers) (text_key 0 n)) (sym same)
    (map_has (text_key 0) w.numbers its.1 (its.0, its.2, its.3)) in (
      mark,
      later 0 mark (map (text_key 0) (line_numbers line) ++ window_marks line.text)
          (Contains-append_left (map (text_key 0) (line_numbers line)) (window_marks line.text) mark
          (map_has (text_key 0) (line_numbers line) number (own.0, own.2, own.3))),
      later (reference_mark w.reference) mark (map (text_key 0) w.numbers) there,
    )

mark_shared : (line : Line) (w : Waiting) → shows line w ≡ true
    → (k : ℕ) × Contains (line_marks line) k × Contains (entry_marks w) k
unfolding shows
mark_shared line w hit = grind (arith, nat_tests, cases_Bool, number_shared, reference_shared)

-- The places found.

marks_there : (n : ℕ) (entries : List BookEntry) (i : ℕ) (d : BookEntry) (k : ℕ) → i < length entries
    → Contains (entry_marks (get_or entries i d).entry) k → Contains (marks_from n entries) (k, n + i)
unfolding marks_from
marks_there n [] i d k lt there = absurd (omega arith)
marks_there n (e ∷ es) zero d k lt there =
    let number : n ≡ n + 0 = omega arith in
    subst (λ (m : ℕ). Contains (marks_from n (e ∷ es)) (k, m)) number
    (Contains-append_left (marks_at n e) (marks_from (n + 1) es) (k, n)
    (map_has {B = ℕ × ℕ} (λ mark. (mark, n)) (entry_marks e.entry) k there))
marks_there n (e ∷ es) (suc i) d k lt there =
    let number : n + 1 + i ≡ n + suc i = omega arith in
    subst (λ (m : ℕ). Contains (marks_from n (e ∷ es)) (k, m)) number
    (Contains-append_right (marks_at n e) (marks_from (n + 1) es) (k, n + 1 + i)
    (marks_there (n + 1) es i d k (omega arith) there))

places_have : (line : Line) (entries : List BookEntry) (i : ℕ) (d : BookEntry) → i < length entries
    → is_shown line (get_or entries i d) ≡ true → Contains (flat_map (places_with entries) (line_marks line)) i
places_have line entries i d lt hit =
    let common = mark_shared line (get_or entries i d).entry hit in
    let k = common.0 in
    let number : 0 + i ≡ i = omega arith in
    let there : Contains (marks_from 0 entries) (k, i) =
    subst (λ (m : ℕ). Contains (marks_from 0 entries) (k, m)) number (marks_there 0 entries i d k lt common.2) in
    flat_map_has (places_with entries) (line_marks line) k i common.1
    (map_has (λ m. m.1) (filter (λ m. mark_of m == k) (marks_from 0 entries)) (k, i)
    (filter_has (λ m. mark_of m == k) (marks_from 0 entries) (k, i) (eq-eqb k k refl) there))

pub all_shown : (line : Line) (entries : List BookEntry) (places sorted : List ℕ)
    → places ≡ flat_map (places_with entries) (line_marks line) → IsStrictlyIncreasing sorted
    → ((place : ℕ) → Contains places place → Contains sorted place)
    → filter (is_shown line) (flat_map (λ place. option_to_list (slice_get entries place)) sorted)
    ≡ filter (is_shown line) entries
all_shown line entries places sorted are rises keeps =
    kept (is_shown line) (λ place. option_to_list (slice_get entries place)) 0 entries sorted
    (λ i. let number : 0 + i ≡ i = omega arith in ap (λ (m : ℕ). option_to_list (slice_get entries m)) number)
    (rise_from 0 sorted (λ d lt. omega arith) (AllPairs-from_increasing sorted rises))
    (λ i d lt hit.
    let number : i ≡ 0 + i = omega arith in
    subst (λ (m : ℕ). Contains sorted m) number
    (keeps i (subst (λ (ps : List ℕ). Contains ps i) (sym are) (places_have line entries i d lt hit))))
