-- The exceptions of a firm, as their table keeps them and in their order.
use Rattle.sql_rows.proofs.Names.{◌≡◌, ℤ, pos, nat_abs, Bool, true, false, not, ◌&&◌, cond, List, [], ◌∷◌, ◌++◌, map, refl, sym, ap, ◌∙◌, int_cmp, Ordering, Equal, is_eq, IsPermutation, Contains, AllByRecursion, list_any, IsTotalOrder, tied_then, ordering_then, cond_both, int_cmp_total, nat_list_cmp_total, on_total, then_total, list_any-IsPermutation, IsPermutation-sym, IsKeyedBy, next_key, sort_by, delete_where, all_weaker, all_both, all-append, none_from_any, IsPermutation-sort_by, Line, with_line, without_line, text_cmp, Exception, exception_cmp, is_exception, note_exception, exception_columns, IsWrittenException, exception_from, arith, ints, nat_tests}
use Rattle.std.specs.List.Sorted.{IsStrictlySortedBy}
use Rattle.std.proofs.lemmas.Map.Views.{Contains-from_any}
use Rattle.trust_base.specs.LineOrder.{line_cmp, is_same_line}
use Rattle.trust_base.proofs.LineFacts.{line_total, line_same}
use Rattle.firm_rows.proofs.Lines.{with_line-again}
use Rattle.sql_rows.proofs.RowOrder.{all-sort_by, any_read, read-filter, read-push, read_cmp, then_assoc}

-- The order of the rows is that of the lines, and then that of the rowids.

exception_total : IsTotalOrder exception_cmp
exception_total =
    then_total (on_total (λ (e : Exception). e.day) int_cmp_total)
    (then_total (on_total (λ (e : Exception). e.reference) nat_list_cmp_total)
    (then_total (on_total (λ (e : Exception). e.bank_ref) nat_list_cmp_total)
    (then_total (on_total (λ (e : Exception). e.amount) int_cmp_total)
    (then_total (on_total (λ (e : Exception). e.text) nat_list_cmp_total)
    (on_total (λ (e : Exception). e.id) int_cmp_total)))))

dated : (e : Exception) → IsWrittenException e → e.day ≡ pos (nat_abs e.day)
dated e is = ap (λ (x : Exception). x.day) is

-- five answers, and then a sixth
five_then : (d r b m t i : Ordering)
    → ordering_then d (ordering_then r (ordering_then b (ordering_then m (ordering_then t i))))
    ≡ ordering_then (ordering_then d (ordering_then r (ordering_then b (ordering_then m t)))) i
five_then d r b m t i = simp then_assoc

five_tied : (d r b m t : Ordering)
    → (is_eq d && (is_eq r && (is_eq b && (is_eq m && is_eq t))))
    ≡ is_eq (ordering_then d (ordering_then r (ordering_then b (ordering_then m t))))
five_tied d r b m t = simp tied_then

-- by all but the day
abbrev behind_day : Line → Line → Ordering
behind_day a b =
    ordering_then (text_cmp a.reference b.reference)
    (ordering_then (text_cmp a.bank_ref b.bank_ref)
    (ordering_then (int_cmp a.amount b.amount) (text_cmp a.text b.text)))

exceptions_agree : (a b : Exception) → IsWrittenException a → IsWrittenException b
    → exception_cmp a b ≡ ordering_then (line_cmp (exception_from a) (exception_from b)) (int_cmp a.id b.id)
exceptions_agree a b is also = grind (arith, ints, nat_tests, read_cmp, dated, five_then)

-- the row is one of the line
is_of_line : (line : Line) (e : Exception) → IsWrittenException e
    → is_exception (exception_columns line) e ≡ is_same_line (exception_from e) line
is_of_line line e is = grind (arith, ints, nat_tests, read_cmp, dated, five_tied, is_eq)

are_of_line : (line : Line) (es : List Exception) → AllByRecursion IsWrittenException es
    → AllByRecursion (λ e. is_exception (exception_columns line) e ≡ is_same_line (exception_from e) line) es
are_of_line line es all = all_weaker IsWrittenException _ (is_of_line line) es all

-- the rowid
abbrev pub key : Exception → ℤ
key e = e.id

-- the lines for which the rows stand
abbrev lines_from : List Exception → List Line
lines_from es = map exception_from (sort_by exception_cmp es)

-- Without a line.

-- without its rows, the others stand for the lines without it
pub exceptions_without : (line : Line) (es : List Exception) → IsKeyedBy key es → AllByRecursion IsWrittenException es
    → lines_from (delete_where (is_exception (exception_columns line)) es) ≡ without_line line (lines_from es)
exceptions_without line es up all =
    read-filter key exception_cmp exception_total line_cmp line_total exception_from IsWrittenException exceptions_agree
    (λ e. not (is_exception (exception_columns line) e)) (λ l. not (is_same_line l line)) es up all
    (all_weaker _ _ (λ e same. ap not same) es (are_of_line line es all))

-- With a line.

tied : (o : Ordering) → is_eq o ≡ true → o ≡ Equal
tied o h = grind arith

there_already : (line : Line) (es : List Exception) → AllByRecursion IsWrittenException es
    → list_any (is_exception (exception_columns line)) es ≡ true → Contains (lines_from es) line
there_already line es all any =
    let same : IsPermutation es (sort_by exception_cmp es) =
    IsPermutation-sym _ _ (IsPermutation-sort_by exception_cmp exception_total es) in
    let sorted = all-sort_by exception_cmp exception_total _ es (are_of_line line es all) in
    Contains-from_any (λ x y h. sym (line_same y x (tied (line_cmp y x) h))) line (lines_from es)
    (any_read (is_exception (exception_columns line)) (λ l. is_same_line l line) exception_from
    (sort_by exception_cmp es) sorted
    ∙ (sym (list_any-IsPermutation (is_exception (exception_columns line)) es (sort_by exception_cmp es) same) ∙ any))

-- the row that is put behind the others
abbrev noted : Line → List Exception → Exception
noted line es = record (exception_columns line) { id = next_key key es }

-- noted, it comes to its place among the lines, or is there already
pub exceptions_with : (line : Line) (es : List Exception) → IsKeyedBy key es → AllByRecursion IsWrittenException es
    → IsStrictlySortedBy line_cmp (lines_from es)
    → lines_from (note_exception (exception_columns line) es) ≡ with_line line (lines_from es)
exceptions_with line es up all sorted = go (list_any (is_exception (exception_columns line)) es) refl
  where
    go : (b : Bool) → list_any (is_exception (exception_columns line)) es ≡ b
        → lines_from (cond b es (es ++ noted line es ∷ [])) ≡ with_line line (lines_from es)
    go true any = sym (with_line-again line (lines_from es) sorted (there_already line es all any))
    go false none =
        read-push key exception_cmp exception_total line_cmp line_total exception_from IsWrittenException
        exceptions_agree es (noted line es) up all refl
        (all_both (λ e. is_exception (exception_columns line) e ≡ false) IsWrittenException _
        (λ e h is. sym (is_of_line line e is) ∙ h) es (none_from_any (is_exception (exception_columns line)) es none)
        all)

-- and each row is what would be written
pub noted_written : (line : Line) (es : List Exception) → AllByRecursion IsWrittenException es
    → AllByRecursion IsWrittenException (note_exception (exception_columns line) es)
noted_written line es all = grind (arith, ints, nat_tests, cond_both, all-append)
