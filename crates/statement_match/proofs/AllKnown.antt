-- What a collector knows of a firm's rows is what is known of the firm.
use Rattle.statement_match.proofs.Names.{◌≡◌, ◌∙◌, sym, ℕ, List, [], ◌∷◌, ◌++◌, map, fold, append_assoc, append-nil, Line, Firm, Row, Waiting, Known, Booking, BookEntry, held_of, own_booking, row_bookings, row_waiting, know_exception, know_own_line, know_row, known_of, none_known, row_entries, arith, ints, nat_tests}
use Rattle.std.specs.List.{flat_map}
use Rattle.firm_rows.specs.declared.ledger.FirmLine.{FirmLine}

-- these four lists
abbrev known_with : List Waiting → List Booking → List Line → List BookEntry → Known
known_with waiting bookings exceptions entries =
    record { held = record { waiting = waiting; bookings = bookings }; entries = entries; exceptions = exceptions }

rows_known : (k : Known) (rows : List (ℕ × Row))
    → fold know_row k rows
    ≡ known_with (k.held.waiting ++ flat_map row_waiting rows) (k.held.bookings ++ flat_map row_bookings rows)
    k.exceptions (k.entries ++ flat_map row_entries rows)
rows_known k [] = grind (arith, ints, nat_tests, known_with, append-nil)
rows_known k (row ∷ rows) =
    grind (arith, ints, nat_tests, append_assoc, row_entries, (rows_known (know_row k row) rows))

own_lines_known : (k : Known) (lines : List FirmLine)
    → fold know_own_line k lines
    ≡ known_with k.held.waiting (k.held.bookings ++ map own_booking lines) k.exceptions k.entries
own_lines_known k [] = λ i. known_with k.held.waiting (sym (append-nil k.held.bookings) i) k.exceptions k.entries
own_lines_known k (line ∷ lines) =
    grind (arith, ints, nat_tests, append_assoc, map, (own_lines_known (know_own_line k line) lines))

exceptions_known : (k : Known) (lines : List Line)
    → fold know_exception k lines
    ≡ known_with k.held.waiting k.held.bookings (k.exceptions ++ lines) k.entries
exceptions_known k [] = λ i. known_with k.held.waiting k.held.bookings (sym (append-nil k.exceptions) i) k.entries
exceptions_known k (line ∷ lines) =
    exceptions_known (know_exception k line) lines
    ∙ (λ i. known_with k.held.waiting k.held.bookings (append_assoc k.exceptions (line ∷ []) lines i) k.entries)

pub all_known : (firm : Firm) (a b c : Known) → a ≡ fold know_row none_known firm.rows
    → b ≡ fold know_own_line a firm.firm_lines → c ≡ fold know_exception b firm.exceptions → c ≡ known_of firm
unfolding known_of held_of
all_known firm a b c ea eb ec = grind (arith, ints, nat_tests, rows_known, fold, own_lines_known, exceptions_known)
