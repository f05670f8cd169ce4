-- The entries of a matter by number, after one was put in.
use Rattle.sql_rows.proofs.Names.{◌≡◌, inl, inr, ℕ, ℤ, pos, nat_abs, ◌<ℤ◌, ◌≤ℤ◌, ◌+◌, Bool, true, false, not, cond, eqb, List, [], ◌∷◌, ◌++◌, map, filter, refl, sym, ap, ap₂, subst, ◌∙◌, arith, int_eq, int_cmp, Less, is_eq, IsPermutation, AllByRecursion, IsTotalOrder, ints, cases_Bool, int_cmp_total, on_total, then_total, IsPermutation-refl, IsPermutation-cons, IsPermutation-trans, IsPermutation-append_comm, IsPermutation-append_left, IsPermutation-sym, filter-append, IsAscending, IsKeyedBy, next_key, sort_by, delete_where, Less-from_lt, same_int, IsKeyedBy-insert_by, IsKeyedBy-delete_where, IsPermutation-filter, all_weaker, ascending-filter, ascending_weaker, filter_all, all-filter, IsPermutation-sort_by, Kept, entry_put, AreNumbered, entry_cmp, is_entry, is_entry_of, entries_of, put_entry, kept_from, IsWrittenEntry, nat_tests}
use Rattle.sql_tables.specs.Rows.{Entry}
use Rattle.sql_tables.proofs.Casts.{below_next, goes_last}
use Rattle.sql_rows.proofs.KeyedRows.{filter-delete_both, int_eq-itself, int_eq-nat}
use Rattle.sql_rows.proofs.RowOrder.{all-sort_by, sorts_to, untied_last}

-- the rowid
abbrev pub entry_key : Entry → ℤ
entry_key e = e.id

-- the entries that a matter keeps, by its rows
abbrev pub kept_of : ℤ → List Entry → List Kept
kept_of m es = map kept_from (entries_of m es)

-- the order of entries is total
pub entry_total : IsTotalOrder entry_cmp
entry_total = then_total (on_total (λ (e : Entry). e.no) int_cmp_total) (on_total entry_key int_cmp_total)

-- with one in the place of that with its number, or else behind the others
abbrev with_row : Entry → List Entry → List Entry
with_row new [] = new ∷ []
with_row new (y ∷ ys) = cond (eqb (nat_abs y.no) (nat_abs new.no)) (new ∷ ys) (y ∷ with_row new ys)

-- it stands for what is kept, with the entry put in
kept-with_row : (new : Entry) (ys : List Entry)
    → map kept_from (with_row new ys) ≡ entry_put (map kept_from ys) (kept_from new)
kept-with_row new [] = refl
kept-with_row new (y ∷ ys) = elim (cases_Bool (eqb (nat_abs y.no) (nat_abs new.no))) [
  | inl e ↦ rw e refl
  | inr e ↦ rw e (ap (λ l. kept_from y ∷ l) (kept-with_row new ys))
]

-- Numbers.

-- the number is not below zero
abbrev pub HasNumber : Entry → Type 0
HasNumber e = e.no ≡ pos (nat_abs e.no)

-- a written row has one
pub written_number : (e : Entry) → IsWrittenEntry e → HasNumber e
written_number e h = ap (λ (x : Entry). x.no) h

-- written rows have numbers
pub have_numbers : (es : List Entry) → AllByRecursion IsWrittenEntry es → AllByRecursion HasNumber es
have_numbers es all = all_weaker IsWrittenEntry HasNumber written_number es all

-- those of a matter too
pub numbers_of : (m : ℤ) (es : List Entry) → AllByRecursion HasNumber es → AllByRecursion HasNumber (entries_of m es)
numbers_of m es all =
    all-sort_by entry_cmp entry_total HasNumber (filter (is_entry_of m) es) (all-filter HasNumber (is_entry_of m) es all)

-- the number that a row is read with is that of its column
pub number_is : (e : Entry) (i : ℕ) → HasNumber e → nat_abs e.no ≡ i → e.no ≡ pos i
number_is e i h is = h ∙ ap pos is

-- the number is i or above
abbrev IsFrom : ℕ → Entry → Type 0
IsFrom i e = pos i ≤ℤ e.no

-- the number is above that of the row
abbrev IsAbove : Entry → Entry → Type 0
IsAbove y e = y.no <ℤ e.no

numbers_from : (i : ℕ) (ys : List Entry) → AllByRecursion HasNumber ys → AreNumbered i (map kept_from ys)
    → AllByRecursion (IsFrom i) ys
numbers_from i [] have h = tt
numbers_from i (y ∷ ys) have h =
    grind (arith, ints, nat_tests, number_is, all_weaker, (numbers_from (i + 1) ys have.1 h.1))

-- rows of entries that are numbered on from a number rise
pub numbers_rise : (i : ℕ) (ys : List Entry) → AllByRecursion HasNumber ys → AreNumbered i (map kept_from ys)
    → IsAscending (λ (a b : Entry). a.no <ℤ b.no) ys
numbers_rise i [] have h = tt
numbers_rise i (y ∷ ys) have h =
    let is = number_is y i have.0 h.0 in
    let more = numbers_from (i + 1) ys have.1 h.1 in
    grind (arith, ints, nat_tests, all_weaker, (numbers_rise (i + 1) ys have.1 h.1))

by_number : (a b : Entry) → a.no <ℤ b.no → entry_cmp a b ≡ Less
by_number a b lt = rw (Less-from_lt a.no b.no lt) refl

-- numbers that are not below zero are told apart as what they are read as
pub same_test : (a b : ℤ) (i n : ℕ) → a ≡ pos i → b ≡ pos n → int_eq a b ≡ eqb (nat_abs a) (nat_abs b)
same_test a b i n p q = rw (p, q) (int_eq-nat i n)

abbrev is_other : ℤ → Entry → Bool
is_other n e = not (int_eq e.no n)

apart_no : (n : ℤ) (y e : Entry) → y.no ≡ n → IsAbove y e → is_other n e ≡ true
apart_no n y e is lt = grind (arith, ints)

same_elements : (new : Entry) (i : ℕ) (ys : List Entry) → HasNumber new → AllByRecursion HasNumber ys
    → AreNumbered i (map kept_from ys) → IsPermutation (filter (is_other new.no) ys ++ new ∷ []) (with_row new ys)
same_elements new i [] own have h = IsPermutation-refl (new ∷ [])
same_elements new i (y ∷ ys) own have h =
    let test = same_test y.no new.no i (nat_abs new.no) (number_is y i have.0 h.0) own in
    elim (cases_Bool (eqb (nat_abs y.no) (nat_abs new.no))) [
      | inl e ↦
          let same : int_eq y.no new.no ≡ true = test ∙ e in
          let above = (numbers_rise i (y ∷ ys) have h).0 in
          let is = same_int _ _ same in
          let others = all_weaker (IsAbove y) _ (λ x lt. apart_no new.no y x is lt) ys above in
          let rest : filter (is_other new.no) ys ≡ ys = filter_all _ ys others in
          rw (e, same, rest) (IsPermutation-append_comm ys (new ∷ []))
      | inr e ↦
          let other : int_eq y.no new.no ≡ false = test ∙ e in
          rw (e, other) (IsPermutation-cons y _ _ (same_elements new (i + 1) ys own have.1 h.1))
    ]

have-with_row : (new : Entry) (ys : List Entry) → HasNumber new → AllByRecursion HasNumber ys
    → AllByRecursion HasNumber (with_row new ys)
have-with_row new [] h all = (h, tt)
have-with_row new (y ∷ ys) h all =
    grind (arith, ints, nat_tests, cases_Bool, eqb, nat_abs, (have-with_row new ys h all.1))

-- What is put in.

-- the row under the next rowid
abbrev pub new_row : Entry → List Entry → Entry
new_row e es = record e { id = next_key entry_key es }

-- it goes behind the others
pub put_last : (e : Entry) (es : List Entry) → IsKeyedBy entry_key es
    → put_entry e es ≡ delete_where (is_entry e) es ++ new_row e es ∷ []
put_last e es up =
    let below = all-filter (λ (x : Entry). x.id <ℤ next_key entry_key es) _ es (below_next entry_key es up) in
    goes_last entry_key (delete_where (is_entry e) es) (new_row e es) below

-- the rowids still rise
pub keyed_put : (e : Entry) (es : List Entry) → IsKeyedBy entry_key es → IsKeyedBy entry_key (put_entry e es)
keyed_put e es up =
    let rest = delete_where (is_entry e) es in
    IsKeyedBy-insert_by entry_key rest (new_row e es) (IsKeyedBy-delete_where entry_key (is_entry e) es up)

own_rows : (e : Entry) (es : List Entry) → IsKeyedBy entry_key es
    → filter (is_entry_of e.matter) (put_entry e es)
    ≡ filter (is_other e.no) (filter (is_entry_of e.matter) es) ++ new_row e es ∷ []
own_rows e es up =
    ap (filter (is_entry_of e.matter)) (put_last e es up)
    ∙ filter-append (is_entry_of e.matter) (delete_where (is_entry e) es) (new_row e es ∷ [])
    ∙ ap₂ ◌++◌ (filter-delete_both (is_entry_of e.matter) (λ (x : Entry). int_eq x.no e.no) es)
    (rw (int_eq-itself e.matter) refl)

abbrev IsUntied : Entry → Entry → Type 0
IsUntied a b = is_eq (entry_cmp a b) ≡ false

untied : (a b : Entry) → a.id <ℤ b.id → IsUntied a b
untied a b lt = grind (arith, ints, nat_tests, untied_last, int_cmp, is_eq)

-- the entries of its matter by number have the row in its place
own_put : (e : Entry) (es : List Entry) → HasNumber e → IsKeyedBy entry_key es → AllByRecursion HasNumber es
    → AreNumbered 1 (kept_of e.matter es) → AreNumbered 1 (entry_put (kept_of e.matter es) (kept_from e))
    → entries_of e.matter (put_entry e es) ≡ with_row (new_row e es) (entries_of e.matter es)
own_put e es own up have were are =
    let new = new_row e es in
    let xs = filter (is_entry_of e.matter) es in
    let ys = sort_by entry_cmp xs in
    let after = filter (is_entry_of e.matter) (put_entry e es) in
    let ys_have = numbers_of e.matter es have in
    let rise = numbers_rise 1 (with_row new ys) (have-with_row new ys own ys_have)
    (subst (AreNumbered 1) (sym (kept-with_row new ys)) are) in
    let sorted = ascending_weaker (λ (a b : Entry). a.no <ℤ b.no) _ by_number _ rise in
    let keyed = ascending-filter _ (is_entry_of e.matter) (put_entry e es) (keyed_put e es up) in
    let apart : IsAscending IsUntied after = ascending_weaker (λ (a b : Entry). a.id <ℤ b.id) _ untied _ keyed in
    let sorting = IsPermutation-sym _ _ (IsPermutation-sort_by entry_cmp entry_total xs) in
    let shuffled : IsPermutation (filter (is_other e.no) xs ++ new ∷ []) (with_row new ys) =
    IsPermutation-trans _ _ _
    (IsPermutation-append_left (new ∷ []) _ _ (IsPermutation-filter (is_other e.no) _ _ sorting))
    (same_elements new 1 ys own ys_have were) in
    let same = subst (λ l. IsPermutation l (with_row new ys)) (sym (own_rows e es up)) shuffled in
    sorts_to entry_cmp entry_total after (with_row new ys) apart same sorted

-- and what the matter keeps has the entry in its place
pub kept_put : (m : ℤ) (e : Entry) (es : List Entry) → e.matter ≡ m → HasNumber e → IsKeyedBy entry_key es
    → AllByRecursion HasNumber es → AreNumbered 1 (kept_of m es)
    → AreNumbered 1 (entry_put (kept_of m es) (kept_from e))
    → kept_of m (put_entry e es) ≡ entry_put (kept_of m es) (kept_from e)
kept_put m e es of own up have were are =
    grind (arith, ints, nat_tests, kept_from, map, own_put, kept-with_row, new_row)
