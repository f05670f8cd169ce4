-- The rows that a write takes out and puts in, as a list of records in the order of their rowids.
use Rattle.sql_tables.proofs.Names.{all_from, unfiltered, ◌≡◌, inl, inr, ℤ, Bool, true, false, not, cond, ◌&&◌, List, [], ◌∷◌, map, filter, fold, drop, None, refl, sym, ap, ap₂, subst, ◌∙◌, arith, int_eq, Less, true≢false, ordering_reverse, AllByRecursion, list_any, ints, Int, Row, value_cmp, value_cmp_total, value_cmp-Int, rowid, put_row, IsAscending, IsTable, Table, Has, ids_of, AreConflicts, conflicts, Given, id_in, without_all, put_all, numbered, are_fresh, IsKeyedBy, insert_by, without_key, update_where, delete_where, same_int, IsKeyedBy-update_where, IsKeyedBy-delete_where, all_has, some_has, some_from, has_kept, has_filtered, has_contained, contains_had, map-map, map_same, ascending-map, ascending_weaker, IsPermutation, list_any-IsPermutation, Contains-permutation, IsPermutation-map, IsPermutation-sym, nat_tests}
use Rattle.std.proofs.lemmas.Bool.{cases_Bool, false_from_ne_true}
use Rattle.sqlite_trees.proofs.TreeLemmas.{IsTable-put_row}
use Rattle.sqlite_schema.specs.declared.schema.Index.{Index}
use Rattle.sqlite_rules.proofs.TableLemmas.{put_all_has, put_all_keeps, put_all_adds}
use Rattle.sqlite_rules.proofs.ProbeLemmas.{mapped_has, has_mapped}
use Rattle.sqlite_typed.proofs.RowLemmas.{puts-map, deletes-map}

both : {X : Type 0} (p q r : X → Bool) → ((x : X) → r x ≡ (q x && p x)) → (xs : List X) → filter p (filter q xs) ≡ filter r xs
both p q r is [] = refl
both p q r is (x ∷ xs) = grind (arith, ints, nat_tests, cases_Bool, (both p q r is xs))

pub all_kept : {X : Type 0} (xs : List X) → filter (λ _. true) xs ≡ xs
all_kept xs = unfiltered xs refl

same_on : {X : Type 0} (p q : X → Bool) (xs : List X) → AllByRecursion (λ x. p x ≡ q x) xs → filter p xs ≡ filter q xs
same_on p q [] h = refl
same_on p q (x ∷ xs) h = rw h.0 (ap (λ l. cond (q x) (x ∷ l) l) (same_on p q xs h.1))

self : (n : ℤ) → int_eq n n ≡ true
self n = grind (arith, ints)

-- lists in a strict order that have the same elements are the same
module _ {X : Type 0} (R : X → X → Type 0) (never : (a b : X) → R a b → R b a → ⊥) where
  later : (x y : X) (ys : List X) → AllByRecursion (R y) ys → x ≡ y → Has ys x → ⊥
  later x y ys low same h = let own = subst (R y) same (all_has (R y) ys x low h) in never y y own own

  first_of : (x y : X) (xs ys : List X) → AllByRecursion (R x) xs → AllByRecursion (R y) ys → Has (y ∷ ys) x → Has (x ∷ xs) y → x ≡ y
  first_of x y xs ys p q x6 k = grind (arith, ints, nat_tests, all_has)

  one_order : (xs ys : List X) → IsAscending R xs → IsAscending R ys → ((z : X) → Has xs z → Has ys z) → ((z : X) → Has ys z → Has xs z) → xs ≡ ys
  one_order [] [] p q to from = refl
  one_order [] (y ∷ ys) p q to from = absurd (from y (inl refl))
  one_order (x ∷ xs) [] p q to from = absurd (to x (inl refl))
  one_order (x ∷ xs) (y ∷ ys) p q to from =
      let same = first_of x y xs ys p.0 q.0 (to x (inl refl)) (from y (inl refl)) in
      grind (arith, ints, nat_tests, later, (one_order xs ys p.1 q.1 (λ z h. elim (to z (inr h)) [ inl e ↦ absurd (later z x xs p.0 (e ∙ sym same) h) | inr k ↦ k ]) (λ z h. elim (from z (inr h)) [ inl e ↦ absurd (later z y ys q.0 (e ∙ same) h) | inr k ↦ k ])))

never : (a b : Row) → value_cmp (rowid a) (rowid b) ≡ Less → value_cmp (rowid b) (rowid a) ≡ Less → ⊥
never a b p q = let back = sym p ∙ value_cmp_total.antisymm (rowid a) (rowid b) ∙ ap ordering_reverse q in cc

all_put : (news rows : List Row) → IsTable rows → IsTable (put_all rows news)
all_put [] rows up = up
all_put (n ∷ news) rows up = all_put news (put_row n rows) (IsTable-put_row n rows up)

unmet : (b : Bool) → not b ≡ true → b ≡ false
unmet b h = grind (arith, ints, nat_tests)

module _ {X : Type 0} (key : X → ℤ) where
  -- the elements with the ids are taken out
  removes_if : (ids : List ℤ) (xs : List X) → fold (without_key key) xs ids ≡ filter (λ x. not (list_any (λ i. int_eq (key x) i) ids)) xs
  removes_if [] xs = sym (all_kept xs)
  removes_if (id ∷ ids) xs = grind (arith, ints, nat_tests, both, (removes_if ids (without_key key xs id)))

  one_key : (xs : List X) (x y : X) → IsKeyedBy key xs → Has xs x → Has xs y → key x ≡ key y → x ≡ y
  one_key [] x y up h k e = absurd h
  one_key (z ∷ xs) x y up (inl h) (inl k) e = h ∙ sym k
  one_key (z ∷ xs) x y up (inl h) (inr k) e = let low = all_has _ xs y up.0 k in absurd (let f = rw h at e in omega (arith, ints))
  one_key (z ∷ xs) x y up (inr h) (inl k) e = let low = all_has _ xs x up.0 h in absurd (let f = rw k at e in omega (arith, ints))
  one_key (z ∷ xs) x y up (inr h) (inr k) e = one_key xs x y up.1 h k e

  module _ (to_row : X → Row) (keyed : (x : X) → rowid (to_row x) ≡ Int (key x)) (indexes : List Index) (table : Table) (new : Row) (p : X → Bool)
      (xs : List X) (up : IsKeyedBy key xs) (tests : AllByRecursion (λ x. conflicts None indexes table new (to_row x) ≡ p x) xs)
      (found : List Row) (are : AreConflicts None indexes table (map to_row xs) new found) where
    abbrev is_found : X → Bool
    is_found x = list_any (λ i. int_eq (key x) i) (ids_of found)

    meets : (x : X) → Has xs x → p x ≡ true → is_found x ≡ true
    meets x h met_it =
        let here : Has found (rowid (to_row x) ∷ []) = are.complete (to_row x) (mapped_has to_row xs x h) (all_has _ xs x tests h ∙ met_it) in
        let id : Has (ids_of found) (key x) = subst (Has (ids_of found)) (ap id_in (keyed x)) (mapped_has (λ (r : Row). id_in (rowid r)) found _ here) in
        some_from (λ i. int_eq (key x) i) (ids_of found) (key x) id (self (key x))

    met : (x : X) → Has xs x → is_found x ≡ true → p x ≡ true
    met x h met_it = grind (arith, ints, nat_tests, some_has, has_mapped, id_in, same_int, one_key, all_has, conflicts)

    pub conflicts_gone : without_all (map to_row xs) (ids_of found) ≡ map to_row (delete_where p xs)
    conflicts_gone =
        deletes-map key to_row keyed (ids_of found) xs
        ∙ ap (map to_row) (removes_if (ids_of found) xs
        ∙ same_on _ _ xs (all_from _ xs (λ x h. elim (cases_Bool (p x)) [
          | inl met_it ↦ rw (meets x h met_it, met_it)
          | inr lacks ↦ let lost : is_found x ≡ false = false_from_ne_true _ (λ met_it. true≢false (sym (met x h met_it) ∙ lacks)) in rw (lost, lacks)
        ])))

  -- one row more, in its place
  pub row_put : (to_row : X → Row) (keyed : (x : X) → rowid (to_row x) ≡ Int (key x)) (new : X) (xs : List X) → put_row (to_row new) (map to_row xs) ≡ map to_row (insert_by key xs new)
  row_put to_row keyed new xs = puts-map key to_row keyed (new ∷ []) xs

  -- the rows that pass are taken out, whose rowids come in some order
  module _ (to_row : X → Row) (keyed : (x : X) → rowid (to_row x) ≡ Int (key x)) (p : X → Bool) (xs : List X) (up : IsKeyedBy key xs) (ids : List ℤ)
      (are : IsPermutation (map key (filter p xs)) ids) where
    passing : (x : X) → Has xs x → list_any (λ i. int_eq (key x) i) (map key (filter p xs)) ≡ p x
    passing x h = elim (cases_Bool (p x)) [
      | inl met_it ↦ some_from (λ i. int_eq (key x) i) _ (key x) (mapped_has key (filter p xs) x (has_kept p xs x h met_it)) (self (key x)) ∙ sym met_it
      | inr lacks ↦ false_from_ne_true _ (λ met_it.
          let i = some_has (λ i. int_eq (key x) i) (map key (filter p xs)) met_it in
          let y = has_mapped key (filter p xs) i.0 i.1 in
          let own = has_filtered p xs y.0 y.1 in
          let same : x ≡ y.0 = one_key xs x y.0 up h own.0 (same_int _ _ i.2 ∙ y.2) in
          true≢false (sym own.1 ∙ ap p (sym same) ∙ lacks)) ∙ sym lacks
    ]

    pub ids_gone : without_all (map to_row xs) ids ≡ map to_row (delete_where p xs)
    ids_gone =
        deletes-map key to_row keyed ids xs
        ∙ ap (map to_row) (removes_if ids xs ∙ same_on _ _ xs (all_from _ xs (λ x h. ap not (sym (list_any-IsPermutation (λ i. int_eq (key x) i) _ _ are) ∙ passing x h))))

  -- the rowids of rows that begin with those of the elements
  pub ids_shown : (show : X → Row) → ((x : X) → id_in (rowid (show x)) ≡ key x) → (ys : List X) (rows : List Row) → IsPermutation (map show ys) rows → IsPermutation (map key ys) (ids_of rows)
  ids_shown show own ys rows are =
      subst (λ l. IsPermutation l (ids_of rows)) (map-map (λ (r : Row). id_in (rowid r)) show ys ∙ map_same _ key own ys) (IsPermutation-map (λ (r : Row). id_in (rowid r)) _ _ are)

  -- what DELETE takes out: the rows that pass, whose rowids a query shows in some order
  pub rows_gone : (to_row : X → Row) (keyed : (x : X) → rowid (to_row x) ≡ Int (key x)) (p : X → Bool) (xs : List X) (up : IsKeyedBy key xs) (rows : List Row)
      → IsPermutation (map (λ x. Int (key x) ∷ []) (filter p xs)) rows → without_all (map to_row xs) (ids_of rows) ≡ map to_row (delete_where p xs)
  rows_gone to_row keyed p xs up rows are = ids_gone to_row keyed p xs up (ids_of rows) (ids_shown (λ x. Int (key x) ∷ []) (λ x. refl) (filter p xs) rows are)

  -- what UPDATE makes of the rows: it takes out those that pass, and puts in what a query shows behind their rowids
  module _ (to_row : X → Row) (keyed : (x : X) → rowid (to_row x) ≡ Int (key x)) (p : X → Bool) (f : X → X) (keeps : (x : X) → key (f x) ≡ key x) (cast : Row → Row) (again : (x : X) → cast (to_row (f x)) ≡ to_row (f x))
      (xs : List X) (up : IsKeyedBy key xs) (rows : List Row) (are : IsPermutation (map (λ x. Int (key x) ∷ to_row (f x)) (filter p xs)) rows) where
    abbrev show : X → Row
    show x = Int (key x) ∷ to_row (f x)

    abbrev kept : List Row
    kept = map to_row (delete_where p xs)

    abbrev news : List Row
    news = map (λ (s : Row). cast (drop 1 s)) rows

    abbrev changed : X → X
    changed x = cond (p x) (f x) x

    is_table : (ys : List X) → IsKeyedBy key ys → IsTable (map to_row ys)
    is_table ys rise = grind (arith, ints, nat_tests, ascending-map, value_cmp, rowid, ascending_weaker, value_cmp-Int)

    -- each new row is of an element that passes, and the other way round
    is_new : (r : Row) → Has news r → (x : X) × Has (filter p xs) x × (r ≡ to_row (f x))
    is_new r h =
        let s = has_mapped (λ (s : Row). cast (drop 1 s)) rows r h in
        let there = has_contained _ s.0 (Contains-permutation rows (map show (filter p xs)) s.0 (IsPermutation-sym _ _ are) (contains_had rows s.0 s.1)) in
        grind (arith, ints, nat_tests, has_mapped, show, filter, drop)

    has_new : (x : X) → Has (filter p xs) x → Has news (to_row (f x))
    has_new x h =
        let there = has_contained rows (show x) (Contains-permutation (map show (filter p xs)) rows (show x) are (contains_had _ (show x) (mapped_has show (filter p xs) x h))) in
        subst (Has news) (again x) (mapped_has (λ (s : Row). cast (drop 1 s)) rows (show x) there)

    has_changed : (x : X) (r : Row) → Has xs x → r ≡ to_row (changed x) → Has (map to_row (update_where p f xs)) r
    has_changed x r h is = subst (Has (map to_row (update_where p f xs))) (sym is) (mapped_has to_row (update_where p f xs) (changed x) (mapped_has changed xs x h))

    given : (base : List Row) (ss : List Row) → numbered Given base ss ≡ ss
    given base [] = refl
    given base (s ∷ ss) = ap (λ l. s ∷ l) (given (put_row s base) ss)

    gone : without_all (map to_row xs) (ids_of rows) ≡ kept
    gone = ids_gone to_row keyed p xs up (ids_of rows) (ids_shown show (λ x. refl) (filter p xs) rows are)

    put : are_fresh kept news ≡ true → put_all kept news ≡ map to_row (update_where p f xs)
    put fresh =
        one_order (λ (a b : Row). value_cmp (rowid a) (rowid b) ≡ Less) never _ _ (all_put news kept (is_table (delete_where p xs) (IsKeyedBy-delete_where key p xs up)))
        (is_table (update_where p f xs) (IsKeyedBy-update_where key p f keeps xs up))
        (λ r h. elim (put_all_has news kept r h) [
          | inl new ↦ let x = is_new r new in let own = has_filtered p xs x.0 x.1 in has_changed x.0 r own.0 (x.2 ∙ ap to_row (rw own.1 refl))
          | inr old ↦ let x = has_mapped to_row (delete_where p xs) r old in let own = has_filtered (λ x. not (p x)) xs x.0 x.1 in has_changed x.0 r own.0 (x.2 ∙ ap to_row (rw (unmet (p x.0) own.1) refl))
        ])
        (λ r h.
        let y = has_mapped to_row (update_where p f xs) r h in
        let x = has_mapped changed xs y.0 y.1 in
        let is : r ≡ to_row (changed x.0) = y.2 ∙ ap to_row x.2 in
        subst (Has (put_all kept news)) (sym is) (elim (cases_Bool (p x.0)) [
          | inl met_it ↦ rw met_it (put_all_adds news kept (to_row (f x.0)) fresh (has_new x.0 (has_kept p xs x.0 x.1 met_it)))
          | inr lacks ↦ rw lacks (put_all_keeps news kept (to_row x.0) fresh (mapped_has to_row (delete_where p xs) x.0 (has_kept (λ x. not (p x)) xs x.0 x.1 (ap not lacks))))
        ]))

    pub rows_changed : are_fresh (without_all (map to_row xs) (ids_of rows)) (numbered Given (without_all (map to_row xs) (ids_of rows)) news) ≡ true
        → put_all (without_all (map to_row xs) (ids_of rows)) (numbered Given (without_all (map to_row xs) (ids_of rows)) news) ≡ map to_row (update_where p f xs)
    rows_changed fresh =
        let same = given (without_all (map to_row xs) (ids_of rows)) news in
        ap₂ put_all gone same ∙ put (sym (ap₂ are_fresh gone same) ∙ fresh)

-- A row that conflicts with none of the rows is found by no test, and one that is found conflicts.
module _ {X : Type 0} (to_row : X → Row) (indexes : List Index) (table : Table) (new : Row) (p : X → Bool) (xs : List X) (tests : AllByRecursion (λ x. conflicts None indexes table new (to_row x) ≡ p x) xs) where
  pub none_found : AreConflicts None indexes table (map to_row xs) new [] → list_any p xs ≡ false
  none_found are = grind (arith, ints, nat_tests, false_from_ne_true, some_has, mapped_has, all_has)

  pub some_found : (x : Row) (more : List Row) → AreConflicts None indexes table (map to_row xs) new (x ∷ more) → list_any p xs ≡ true
  some_found x more are =
      let r = are.sound x (inl refl) in
      grind (arith, ints, nat_tests, has_mapped, some_from, all_has, conflicts)
