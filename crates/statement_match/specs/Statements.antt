-- The statement for the import: what is written of the records of a statement whose references may be empty.
use Rattle.std.specs.Prelude.{ℕ, List, ◌∷◌}
use Rattle.statement_csv.specs.Headers.{header}
use Rattle.statement_lines.specs.Held.{Held}
use Rattle.statement_lines.specs.Records.{Rows, lines_from, rows_of}
use Rattle.statement_lines.specs.Written.{rows_by, text_of}
use Rattle.statement_match.specs.Rule.{becomes}

-- what is written of the records of a statement
abbrev pub written_rows : ℕ → Held → Rows → Rows
written_rows today held rows = rows_by (becomes today held (lines_from 1 rows)) 1 rows

-- the statement that is written for one of these bytes, with what a book has
unfoldable pub statement_text : ℕ → Held → List ℕ → List ℕ
statement_text today held bytes = text_of (header ∷ written_rows today held (rows_of bytes))
