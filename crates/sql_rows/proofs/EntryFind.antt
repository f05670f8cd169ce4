-- The entry of a number among the rows of the table is that of the matter that they stand for.
use Rattle.sql_rows.proofs.Names.{◌≡◌, ℕ, ℤ, pos, ◌+◌, Bool, List, [], ◌∷◌, map, filter, find, option_map, int_eq, refl, ap, ◌∙◌, AllByRecursion, cases_Bool, sort_by, at_most_one, kept_in, AreNumbered, entry_cmp, is_entry_at, is_entry_of, kept_from, arith, ints, nat_tests}
use Rattle.sql_tables.specs.Rows.{Entry}
use Rattle.sql_rows.proofs.EntryOrder.{HasNumber, entry_total, kept_of, number_is, numbers_of, numbers_rise, same_test}
use Rattle.sql_rows.proofs.RowOrder.{find-sort_by}

abbrev has_no : ℤ → Entry → Bool
has_no n e = int_eq e.no n

find_both : (m n : ℤ) (es : List Entry) → find (has_no n) (filter (is_entry_of m) es) ≡ find (is_entry_at m n) es
find_both m n [] = refl
find_both m n (e ∷ es) = grind (arith, ints, nat_tests, cases_Bool, int_eq, (find_both m n es))

by_numbers : (n i : ℕ) (ys : List Entry) → AllByRecursion HasNumber ys → AreNumbered i (map kept_from ys)
    → kept_in (map kept_from ys) n ≡ option_map kept_from (find (has_no (pos n)) ys)
by_numbers n i [] have h = refl
by_numbers n i (y ∷ ys) have h =
    grind (arith, ints, nat_tests, same_test, number_is, cases_Bool, (by_numbers n (i + 1) ys have.1 h.1))

-- the entry that a matter keeps under a number is that of the row of its number
pub kept_is_found : (m : ℤ) (n : ℕ) (es : List Entry) → AllByRecursion HasNumber es → AreNumbered 1 (kept_of m es)
    → kept_in (kept_of m es) n ≡ option_map kept_from (find (is_entry_at m (pos n)) es)
kept_is_found m n es have numbered =
    let xs = filter (is_entry_of m) es in
    let ys = sort_by entry_cmp xs in
    let q = has_no (pos n) in
    let ys_have = numbers_of m es have in
    let few = at_most_one (λ (e : Entry). e.no) (pos n) q (λ e h. h) ys (numbers_rise 1 ys ys_have numbered) in
    by_numbers n 1 ys ys_have numbered
    ∙ ap (option_map kept_from) (find-sort_by entry_cmp entry_total q xs few ∙ find_both m (pos n) es)
