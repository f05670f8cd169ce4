-- The matters by number, after a head was put in, and what is found of one.
use Rattle.sql_rows.proofs.Names.{◌≡◌, inl, inr, ℕ, ℤ, pos, ◌<ℤ◌, List, [], ◌∷◌, map, find, Option, Some, None, refl, sym, ap, ap₂, ◌∙◌, arith, nat_lt, ◌==◌, AllByRecursion, ints, cases_Bool, nat_tests, IsKeyedBy, insert_by, delete_where, Less-from_lt, all_weaker, Rows, unopened, Part, rows_kept, rows_in, matters_with, put_head, is_head, filter_all, not, none_past}
use Rattle.std.specs.Prelude.{nat_abs}
use Rattle.trust_store.specs.declared.plain.KeptMatter.{KeptMatter}
use Rattle.sql_tables.specs.Rows.{Head}
use Rattle.sql_rows.proofs.KeyedRows.{lt_ints, same_ints, apart_below, apart_above, Greater-from_lt}

-- the number of the matter, which is the rowid
abbrev pub key : Head → ℤ
key h = h.no

-- the number is a natural one
abbrev pub IsNumbered : Head → Type 0
IsNumbered h = h.no ≡ pos (nat_abs h.no)

-- a matter made of a head
abbrev pub made_by : (Head → Part) → Head → KeptMatter
made_by part h = record { number = nat_abs h.no; matter = part h }

-- A head that is put in.

pub none_gone : (n : ℤ) (hs : List Head) → AllByRecursion (λ (h : Head). n <ℤ h.no) hs
    → delete_where (is_head n) hs ≡ hs
none_gone n hs up = filter_all _ hs (all_weaker _ _ (λ h above. ap not (apart_above h.no n above)) hs up)

pub goes_first : (new : Head) (hs : List Head) → AllByRecursion (λ (h : Head). new.no <ℤ h.no) hs
    → insert_by key hs new ≡ new ∷ hs
goes_first new [] up = refl
goes_first new (h ∷ hs) up = rw (Greater-from_lt h.no new.no up.0) refl

module _ (p q : Head → Part) (new : Head) (m : ℕ) (own : new.no ≡ pos m)
    (same : (h : Head) → (h.no ≡ pos m → ⊥) → p h ≡ q h) where
  above_same : (hs : List Head) → AllByRecursion (λ (h : Head). new.no <ℤ h.no) hs
      → map (made_by p) hs ≡ map (made_by q) hs
  above_same [] up = refl
  above_same (h ∷ hs) up = grind (arith, ints, nat_tests, nat_abs, (above_same hs up.1))

  number_own : nat_abs new.no ≡ m
  number_own = ap nat_abs own

  -- its matter is among the others with it, whether it had a head or not
  pub made-put_head : (hs : List Head) → IsKeyedBy key hs → AllByRecursion IsNumbered hs
      → map (made_by p) (put_head new hs) ≡ matters_with m (p new) (map (made_by q) hs)
  made-put_head [] up numbered = ap (λ n. record { number = n; matter = p new } ∷ []) number_own
  made-put_head (h ∷ hs) up numbered =
      let k = nat_abs h.no in
      let is = numbered.0 in
      elim (cases_Bool (nat_lt k m)) [
        | inl low ↦
            let lt = lt_ints h.no new.no k m is own (grind (arith, nat_tests)) in
            let apart : p h ≡ q h = same h (λ e. omega (arith, ints, lt, e, own)) in
            rw (low, apart_below h.no new.no lt)
            (rw (Less-from_lt h.no new.no lt)
            (ap₂ ◌∷◌ (ap (λ part. record { number = k; matter = part }) apart) (made-put_head hs up.1 numbered.1)))
        | inr high ↦ elim (cases_Bool (k == m)) [
          | inl at ↦
              let e : k ≡ m = grind (arith, nat_tests) in
              let here = same_ints h.no new.no k m is own e in
              let above : AllByRecursion (λ (x : Head). new.no <ℤ x.no) hs =
              all_weaker (λ (x : Head). h.no <ℤ x.no) (λ (x : Head). new.no <ℤ x.no)
              (λ x lt. omega (arith, ints, lt, is, own, e)) hs up.0 in
              rw (high, at, here) (rw (none_gone new.no hs above, goes_first new hs above)
              (ap₂ ◌∷◌ (ap (λ n. record { number = n; matter = p new }) number_own) (above_same hs above)))
          | inr off ↦
              let gt = lt_ints new.no h.no m k own is (grind (arith, nat_tests)) in
              let above : AllByRecursion (λ (x : Head). new.no <ℤ x.no) (h ∷ hs) = (
                gt,
                all_weaker (λ (x : Head). h.no <ℤ x.no) (λ (x : Head). new.no <ℤ x.no)
                    (λ x lt. omega (arith, ints, lt, gt)) hs up.0,
              ) in
              rw (high, off) (ap (map (made_by p))
              (ap (λ l. insert_by key l new) (none_gone new.no (h ∷ hs) above) ∙ goes_first new (h ∷ hs) above)
              ∙ ap₂ ◌∷◌ (ap (λ n. record { number = n; matter = p new }) number_own) (above_same (h ∷ hs) above))
        ]
      ]

-- The rows of a matter.

-- with the head that is found, or none
abbrev pub rows_found : (Head → Part) → Option Head → Rows
rows_found part None = unopened
rows_found part (Some h) = rows_kept (part h)

-- the rows of a matter among those that the heads make
pub rows_in-made : (part : Head → Part) (hs : List Head) (m : ℕ) → IsKeyedBy key hs → AllByRecursion IsNumbered hs
    → rows_in m (map (made_by part) hs) ≡ rows_found part (find (is_head (pos m)) hs)
rows_in-made part [] m up numbered = refl
rows_in-made part (x ∷ hs) m up numbered =
    let k = nat_abs x.no in
    let is = numbered.0 in
    elim (cases_Bool (nat_lt k m)) [
      | inl low ↦
          let lt = lt_ints x.no (pos m) k m is refl (grind (arith, nat_tests)) in
          rw (low, apart_below x.no (pos m) lt) (rows_in-made part hs m up.1 numbered.1)
      | inr high ↦ elim (cases_Bool (k == m)) [
        | inl e ↦
            let same : k ≡ m = grind (arith, nat_tests) in
            let here = same_ints x.no (pos m) k m is refl same in
            rw (high, e, here) refl
        | inr off ↦
            let gt = lt_ints (pos m) x.no m k refl is (grind (arith, nat_tests)) in
            let none = none_past key (x ∷ hs) (pos m) (
              gt,
              all_weaker (λ (y : Head). x.no <ℤ y.no) (λ (y : Head). pos m <ℤ y.no)
                  (λ y lt. omega (arith, ints, lt, gt)) hs up.0,
            ) in
            rw (high, off) (ap (rows_found part) (sym none))
      ]
    ]
