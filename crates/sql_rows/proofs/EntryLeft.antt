-- The entries of a matter after what is left of one was written.
use Rattle.sql_rows.proofs.Names.{◌≡◌, inl, inr, ℕ, ℤ, pos, nat_abs, ◌+◌, ◌<◌, Bool, true, false, cond, eqb, List, [], ◌∷◌, map, filter, Option, Some, None, refl, ap, ◌∙◌, arith, int_eq, AllByRecursion, cases_Bool, cond_both, nat_tests, sort_by, update_where, same_int, int_eq_apart, all_map, all_weaker, first_of_both, sort_by-map, Left, left_written, other_written, AreNumbered, entry_cmp, is_entry_at, is_entry_of, entries_of, with_left, put_left, HasHeadAt, IsWrittenEntry, kept_from, ints}
use Rattle.sql_tables.specs.Rows.{Entry}
use Rattle.sql_rows.proofs.EntryOrder.{HasNumber, have_numbers, kept_of, number_is, numbers_of, same_test}
use Rattle.sql_rows.proofs.Placed.{EntriesPlaced}

-- what is left of the one that is named, if one is
abbrev pub left_put : ℕ → Option Left → List Entry → List Entry
left_put m None es = es
left_put m (Some o) es = put_left (pos m) (pos o.number) (pos o.left) es

abbrev has_no : ℤ → Entry → Bool
has_no n e = int_eq e.no n

-- The rows of a matter.

module _ (m n left : ℤ) where
  abbrev is_it : Entry → Bool
  is_it = is_entry_at m n

  abbrev it : Entry → Entry
  it = with_left left

  -- those of another matter are as they were
  others_rows : (k : ℤ) (es : List Entry) → (k ≡ m → ⊥)
      → filter (is_entry_of k) (put_left m n left es) ≡ filter (is_entry_of k) es
  others_rows k [] other = refl
  others_rows k (e ∷ es) other =
      grind (arith, ints, nat_tests, cases_Bool, same_int, first_of_both, int_eq_apart, (others_rows k es other))

  -- its own are changed by their numbers
  own_rows : (es : List Entry) → filter (is_entry_of m) (put_left m n left es)
      ≡ update_where (has_no n) it (filter (is_entry_of m) es)
  own_rows [] = refl
  own_rows (e ∷ es) = grind (arith, ints, nat_tests, cases_Bool, int_eq, it, (own_rows es))

-- Their order.

module _ (n left : ℤ) where
  abbrev changed : Entry → Entry
  changed e = cond (has_no n e) (with_left left e) e

  same_order : (a b : Entry) → entry_cmp (changed a) (changed b) ≡ entry_cmp a b
  same_order a b = grind (arith, ints, nat_tests, cond_both, has_no, with_left, entry_cmp, changed)

  sorted_rows : (xs : List Entry) → sort_by entry_cmp (update_where (has_no n) (with_left left) xs)
      ≡ update_where (has_no n) (with_left left) (sort_by entry_cmp xs)
  sorted_rows xs = sort_by-map entry_cmp changed xs ∙ (λ i. map changed (sort_by (λ a b. same_order a b i) xs))

-- What is kept.

module _ (n left : ℕ) where
  -- no entry from a number above it on is the one
  none_left : (i : ℕ) (ys : List Entry) → n < i → AllByRecursion HasNumber ys → AreNumbered i (map kept_from ys)
      → map kept_from (update_where (has_no (pos n)) (with_left (pos left)) ys) ≡ map kept_from ys
  none_left i [] low have numbered = refl
  none_left i (y ∷ ys) low have numbered =
      let is : nat_abs y.no ≡ i = numbered.0 in
      let test = same_test y.no (pos n) i n (number_is y i have.0 is) refl in
      let off : eqb (nat_abs y.no) n ≡ false = grind (arith, nat_tests) in
      rw (test ∙ off) (ap (λ l. kept_from y ∷ l) (none_left (i + 1) ys (omega (arith, low)) have.1 numbered.1))

  kept_left : (i : ℕ) (ys : List Entry) → AllByRecursion HasNumber ys → AreNumbered i (map kept_from ys)
      → map kept_from (update_where (has_no (pos n)) (with_left (pos left)) ys) ≡ left_written (map kept_from ys) n left
  kept_left i [] have numbered = refl
  kept_left i (y ∷ ys) have numbered =
      let is : nat_abs y.no ≡ i = numbered.0 in
      let test = same_test y.no (pos n) i n (number_is y i have.0 is) refl in
      elim (cases_Bool (eqb (nat_abs y.no) n)) [
        | inl b ↦
            let low : n < i + 1 = grind (arith, nat_tests) in
            rw (test ∙ b, b) (ap (λ l. kept_from (with_left (pos left) y) ∷ l)
            (none_left (i + 1) ys low have.1 numbered.1))
        | inr b ↦ rw (test ∙ b, b) (ap (λ l. kept_from y ∷ l) (kept_left (i + 1) ys have.1 numbered.1))
      ]

-- what the matter keeps has what is left of the one that is named
pub own_left : (m : ℕ) (o : Option Left) (es : List Entry) → AllByRecursion IsWrittenEntry es
    → AreNumbered 1 (kept_of (pos m) es)
    → kept_of (pos m) (left_put m o es) ≡ other_written (kept_of (pos m) es) o
own_left m None es written numbered = refl
own_left m (Some o) es written numbered =
    ap (λ (xs : List Entry). map kept_from (sort_by entry_cmp xs)) (own_rows (pos m) (pos o.number) (pos o.left) es)
    ∙ ap (map kept_from) (sorted_rows (pos o.number) (pos o.left) (filter (is_entry_of (pos m)) es))
    ∙ kept_left o.number o.left 1 (entries_of (pos m) es) (numbers_of (pos m) es (have_numbers es written)) numbered

others_left : (k : ℤ) (m : ℕ) (o : Option Left) (es : List Entry) → (k ≡ pos m → ⊥)
    → entries_of k (left_put m o es) ≡ entries_of k es
others_left k m None es other = refl
others_left k m (Some o) es other = ap (sort_by entry_cmp) (others_rows (pos m) (pos o.number) (pos o.left) k es other)

either : (P : Entry → Type 0) (b : Bool) (x y : Entry) → P x → P y → P (cond b x y)
either P true x y p q = p
either P false x y p q = q

-- what holds of each, whatever is left of it, holds of each afterwards
each_left : (P : Entry → Type 0) (m : ℕ) (o : Option Left) (es : List Entry)
    → ((left : ℕ) (e : Entry) → P e → P (with_left (pos left) e))
    → AllByRecursion P es → AllByRecursion P (left_put m o es)
each_left P m None es still all = all
each_left P m (Some o) es still all =
    let change = λ (e : Entry). cond (is_entry_at (pos m) (pos o.number) e) (with_left (pos o.left) e) e in
    all_map P change es
    (all_weaker P (λ e. P (change e)) (λ e h. either P (is_entry_at (pos m) (pos o.number) e) _ e (still o.left e h) h) es all)

-- those of other matters stay, and each is a written one, of a matter with a head
pub placed_left_put : (m : ℕ) (o : Option Left) (es : List Entry) → AllByRecursion IsWrittenEntry es
    → EntriesPlaced m es (left_put m o es)
placed_left_put m o es written = record {
  others = λ k other. others_left k m o es other;
  written = each_left IsWrittenEntry m o es (λ left e h. ap (λ (x : Entry). record x { left_now = pos left }) h) written;
  headed = λ heads here all. each_left (λ (e : Entry). HasHeadAt heads e.matter) m o es (λ left e h. h) all;
}
