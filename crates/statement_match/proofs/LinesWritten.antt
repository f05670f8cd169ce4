-- The lines of the records that are written are what is written of the lines.
use Rattle.statement_match.proofs.Names.{◌≡◌, ◌∙◌, ap, subst, ℕ, ◌+◌, true, List, [], ◌∷◌, ◌++◌, drop, Option, Some, None, refl, Line, item_of, item_of_line, items_from, line_in, Rows, line_at, lines_from, records_of, rows_of, Held, is_open, named_row, row_as, rows_by, LineOutcome, with_reference, written_as, written_of, becomes, HasLinesWritten, HasReferences, IsReference, arith, ints, nat_tests}
use Rattle.std.proofs.Common.{option_map, option_to_list}
use Rattle.std.specs.Prelude.{unwrap_or}
use Rattle.statement_csv.specs.Lines.{line_of, line_of_texts}
use Rattle.statement_csv.specs.declared.item.Item.TheVariants as item
use Rattle.statement_csv.proofs.ItemFacts.{known_line, open_line, same_line}
use Rattle.statement_lines.specs.declared.line_outcome.LineOutcome.TheVariants as outcome
use Rattle.statement_match.proofs.Filling.{fills_with_waiting}
use Rattle.statement_match.proofs.ReadBack.{reads_back}
use Rattle.statement_match.proofs.Writing.{HasOpenness, openness}

-- A line with another reference.

-- the texts of a line with another reference
texts_with : (date reference bank_ref amount text other : List ℕ) (l : Line) → IsReference other
    → line_of_texts date reference bank_ref amount text ≡ Some l
    → line_of_texts date other bank_ref amount text ≡ Some (with_reference other l)
unfolding line_of_texts
texts_with date reference bank_ref amount text other l is e = grind (arith, ints, nat_tests)

-- the record of a line with another reference is that line
named_line : (fields : List (List ℕ)) (other : List ℕ) (l : Line) → IsReference other → line_of fields ≡ Some l
    → line_of (named_row other fields) ≡ Some (with_reference other l)
named_line fields other l is e = grind (arith, ints, nat_tests, texts_with)

-- the record of an open line with a reference is that line with it
named_at : (n m : ℕ) (fields : List (List ℕ)) (line : Line) (other : List ℕ) → IsReference other
    → line_at n fields ≡ Some line → is_open line ≡ true
    → line_at m (named_row other fields) ≡ Some (with_reference other line)
unfolding item_of
named_at n m fields line other is e opened = by (line_of fields) refl e
  where
    by : (o : Option Line) → line_of fields ≡ o
        → line_in (unwrap_or (option_map (item_of_line n) o) (item.Unreadable n)) ≡ Some line
        → line_in (unwrap_or (option_map (item_of_line m) (line_of (named_row other fields))) (item.Unreadable m))
        ≡ Some (with_reference other line)
    by None from e = cc
    by (Some l) from e =
        let (same, has) = open_line n l line e opened in
        rw (named_line fields other l is from) (
        known_line m (with_reference other l) has ∙ ap (λ (x : Line). Some (with_reference other x)) same
        )

-- What is written.

-- the reference with which a line is filled is one of a record
filled_reference : (today : ℕ) (held : Held) (all : List Line) (line : Line) (r : List ℕ) → HasReferences held
    → becomes today held all line ≡ outcome.Filled r → IsReference r
filled_reference today held all line r ok e = grind (arith, ints, nat_tests, fills_with_waiting)

-- the lines of what is written of a record, and of the records behind it
one_written : (m : ℕ) (fields : List (List ℕ)) (line : Line) (o : LineOutcome) (rows : Rows) (out : List Line)
    → line_at m fields ≡ Some line
    → ((r : List ℕ) → o ≡ outcome.Filled r → line_at m (named_row r fields) ≡ Some (with_reference r line))
    → ((k : ℕ) → lines_from k rows ≡ out)
    → lines_from m (row_as fields (Some o) ++ rows) ≡ written_as line o ++ out
unfolding items_from
one_written m fields line o rows out is filled rest = grind (arith, ints, nat_tests)

lines_written : (today : ℕ) (held : Held) (all : List Line) → HasReferences held → (n m : ℕ) (rows : Rows)
    → lines_from m (rows_by (becomes today held all) n rows) ≡ written_of today held all (lines_from n rows)
unfolding rows_by items_from
lines_written today held all ok n m [] = refl
lines_written today held all ok n m (fields ∷ rest) =
    by (line_at n fields) refl (λ k. lines_written today held all ok (n + 1) k rest)
  where
    rows : Rows
    rows = rows_by (becomes today held all) (n + 1) rest

    out : List Line
    out = written_of today held all (lines_from (n + 1) rest)

    by : (found : Option Line) → line_at n fields ≡ found → ((k : ℕ) → lines_from k rows ≡ out)
        → lines_from m (row_as fields (option_map (becomes today held all) (line_at n fields)) ++ rows)
        ≡ written_of today held all (option_to_list (line_at n fields) ++ lines_from (n + 1) rest)
    by None is more = rw (is, same_line m n fields ∙ is) (more (m + 1))
    by (Some line) is more =
        rw is (one_written m fields line (becomes today held all line) rows out (same_line m n fields ∙ is)
        (λ r e. named_at n m fields line r (filled_reference today held all line r ok e) is
        (subst (HasOpenness line) e (openness today held all line)))
        more)

pub has_lines_written : HasLinesWritten
unfolding records_of
has_lines_written today held bytes ok =
    grind (arith, ints, nat_tests, lines_from, drop, reads_back, lines_written, rows_of)
