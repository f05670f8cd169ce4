-- What is kept of the records of a statement that are read one at a time.
use Rattle.statement_lines.proofs.Names.{◌≡◌, ◌∙◌, sym, ap, ℕ, ◌+◌, List, [], ◌∷◌, ◌++◌, length, fold, append_assoc, append-nil, add-zero, refl, arith, Line, items_from, Records, Rows, lines_from, no_records, numbers_from, records_of, rows_of, with_record, ints, nat_tests}

-- records with these lines, these numbers and this count
abbrev records_with : List Line → List ℕ → ℕ → Records
records_with lines numbers count = record { lines = lines; numbers = numbers; count = count }

records_kept : (r : Records) (rows : Rows)
    → fold with_record r rows
    ≡ records_with (r.lines ++ lines_from (r.count + 1) rows) (r.numbers ++ numbers_from (r.count + 1) rows)
    (r.count + length rows)
unfolding items_from numbers_from
records_kept r [] = rw (append-nil r.lines, append-nil r.numbers, add-zero r.count) refl
records_kept r (fields ∷ rest) =
    grind (arith, ints, nat_tests, length, append_assoc, (records_kept (with_record r fields) rest))

-- the records of a statement, kept one at a time
pub all_records : (bytes : List ℕ) → fold with_record no_records (rows_of bytes) ≡ records_of bytes
unfolding records_of
all_records bytes = grind (arith, ints, nat_tests, length, records_kept, numbers_from)

-- a statement without records
pub none_of : (bytes : List ℕ) → rows_of bytes ≡ [] → no_records ≡ records_of bytes
none_of bytes none = ap (fold with_record no_records) (sym none) ∙ all_records bytes
