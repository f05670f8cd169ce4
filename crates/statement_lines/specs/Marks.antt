-- The marks by which the words of a line may show an entry: numbers that the line and the entry have in common.
use Rattle.std.specs.Prelude.{ℕ, Bool, ◌==◌, ◌+◌, List, [], ◌∷◌, ◌++◌, length, map, take, if◌then◌else◌}
use Rattle.trust_base.specs.declared.line.Line.{Line}
use Rattle.statement_lines.specs.Keys.{text_key}
use Rattle.statement_lines.specs.Numbers.{line_numbers}
use Rattle.statement_lines.specs.Showing.{shows}
use Rattle.statement_lines.specs.Waiting.{Waiting}
use Rattle.statement_lines.specs.declared.book_entry.BookEntry.{BookEntry}

-- the line shows the entry, whether it waits or not
abbrev pub is_shown : Line → BookEntry → Bool
is_shown line e = shows line e.entry

-- the mark of a reference of twelve bytes, as every book's are; for any other length 0, which every line has
abbrev pub reference_mark : List ℕ → ℕ
reference_mark reference = if length reference == 12 then text_key 0 reference else 0

abbrev pub entry_marks : Waiting → List ℕ
entry_marks w = reference_mark w.reference ∷ map (text_key 0) w.numbers

-- the marks of the twelve bytes from each place of a text, or of the rest if it is shorter
unfoldable pub window_marks : List ℕ → List ℕ
window_marks [] = []
window_marks (b ∷ rest) = text_key 0 (take 12 (b ∷ rest)) ∷ window_marks rest

abbrev pub line_marks : Line → List ℕ
line_marks line = 0 ∷ (map (text_key 0) (line_numbers line) ++ window_marks line.text)

-- The marks of entries, each with the place of its entry. The first entry has this place.

abbrev pub marks_at : ℕ → BookEntry → List (ℕ × ℕ)
marks_at place e = map (λ mark. (mark, place)) (entry_marks e.entry)

unfoldable pub marks_from : ℕ → List BookEntry → List (ℕ × ℕ)
marks_from place [] = []
marks_from place (e ∷ es) = marks_at place e ++ marks_from (place + 1) es

abbrev pub mark_of : ℕ × ℕ → ℕ
mark_of mark = mark.0
