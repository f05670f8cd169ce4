-- A head that is changed where it stands, and one that is put in, are the same heads.
use Rattle.sql_rows.proofs.Names.{◌≡◌, inl, inr, ℤ, ◌<ℤ◌, true, List, [], ◌∷◌, find, Some, refl, sym, ap, ap₂, subst, ◌∙◌, int_eq, AllByRecursion, cases_Bool, IsKeyedBy, Less-from_lt, same_int, map-map, map_same, is_head, put_head, change_head, arith, ints, nat_tests}
use Rattle.sql_tables.specs.Rows.{Head}
use Rattle.sql_rows.proofs.HeadOrder.{key, goes_first, none_gone}
use Rattle.sql_rows.proofs.KeyedRows.{apart_above, apart_below, int_eq-itself}
use Rattle.sql_rows.proofs.RowOrder.{all-find}

module _ (n : ℤ) (f : Head → Head) (same : (h : Head) → (f h).no ≡ h.no) where
  none_changed : (hs : List Head) → AllByRecursion (λ (h : Head). n <ℤ h.no) hs → change_head n f hs ≡ hs
  none_changed [] up = refl
  none_changed (h ∷ hs) up = rw (apart_above h.no n up.0) (ap (λ l. h ∷ l) (none_changed hs up.1))

  -- where the head is found, it is as if the changed one were put in
  pub changed_is_put : (h : Head) (hs : List Head) → IsKeyedBy key hs → find (is_head n) hs ≡ Some h
      → change_head n f hs ≡ put_head (f h) hs
  changed_is_put h [] up found = absurd (let e = found in cc)
  changed_is_put h (x ∷ hs) up found = elim (cases_Bool (int_eq x.no n)) [
    | inl own ↦
        let it : Some x ≡ Some h = rw own at found in
        let is : x ≡ h = cc in
        let no : (f h).no ≡ x.no = same h ∙ ap key (sym is) in
        let here : int_eq x.no (f h).no ≡ true = rw no (int_eq-itself x.no) in
        let above = subst (λ k. AllByRecursion (λ (y : Head). k <ℤ y.no) hs) (sym no) up.0 in
        let past = subst (λ k. AllByRecursion (λ (y : Head). k <ℤ y.no) hs) (same_int x.no n own) up.0 in
        rw (own, here) (ap₂ ◌∷◌ (ap f is) (none_changed hs past)
        ∙ sym (rw (none_gone (f h).no hs above) (goes_first (f h) hs above)))
    | inr off ↦
        let later : find (is_head n) hs ≡ Some h = rw off at found in
        let low : x.no <ℤ (f h).no =
        subst (λ k. x.no <ℤ k) (sym (same h)) (all-find (λ (y : Head). x.no <ℤ y.no) (is_head n) hs h up.0 later) in
        rw (off, apart_below x.no (f h).no low)
        (rw (Less-from_lt x.no (f h).no low) (ap (λ l. x ∷ l) (changed_is_put h hs up.1 later)))
  ]

  -- one change behind another is both
  pub changed_twice : (g : Head → Head) (hs : List Head)
      → change_head n g (change_head n f hs) ≡ change_head n (λ h. g (f h)) hs
  changed_twice g hs = grind (arith, ints, nat_tests, map-map, map_same, is_head, cases_Bool, int_eq)
