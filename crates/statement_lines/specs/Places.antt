-- Lookup of the deposits and payments of a book.
use Rattle.std.specs.Prelude.{ℕ, List, map, ◌==◌}
use Rattle.std.specs.List.{filter}
use Rattle.statement_lines.specs.Keys.{day_key, entry_key, reference_key}
use Rattle.statement_lines.specs.Lookups.{IsLookup}
use Rattle.statement_lines.specs.Marks.{mark_of, marks_from}
use Rattle.statement_lines.specs.declared.book_entry.BookEntry.{BookEntry}
use denote.Ref.{Bor}

-- the entries can be looked up by amount, by reference, by day and by mark
pub record AreEntriesFound
    (entries : List BookEntry) (amounts references days : List (ℕ × Bor BookEntry)) (marks : List (ℕ × Bor (ℕ × ℕ)))
    : Type 0 where
  pub amounts_found : IsLookup entry_key entries amounts
  pub references_found : IsLookup reference_key entries references
  pub days_found : IsLookup day_key entries days
  pub marks_found : IsLookup mark_of (marks_from 0 entries) marks

-- the places of the entries with this mark
abbrev pub places_with : List BookEntry → ℕ → List ℕ
places_with entries mark = map (λ m. m.1) (filter (λ m. mark_of m == mark) (marks_from 0 entries))
