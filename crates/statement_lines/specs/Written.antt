-- What is written of the records of a statement, by what becomes of their lines.
use Rattle.std.specs.Prelude.{ℕ, ◌+◌, List, [], ◌∷◌, ◌++◌, get_or, Option, Some, None, option_map}
use Rattle.std.specs.List.{flat_map}
use Rattle.csv.specs.Writing.{default_writer, row_text}
use Rattle.trust_base.specs.declared.line.Line.{Line}
use Rattle.statement_lines.specs.Records.{Rows, line_at}
use Rattle.statement_lines.specs.declared.line_outcome.LineOutcome.{LineOutcome}
use Rattle.statement_lines.specs.declared.line_outcome.LineOutcome.TheVariants as outcome

-- the record of a line with this as its reference
abbrev pub named_row : List ℕ → List (List ℕ) → List (List ℕ)
named_row reference fields =
    get_or fields 0 [] ∷ reference ∷ get_or fields 2 [] ∷ get_or fields 3 [] ∷ get_or fields 4 [] ∷ []

-- what is written of a record, according to the outcome of its line, if it is one; a record that is not a line, and a
-- line with a reference, is unchanged
abbrev pub row_as : List (List ℕ) → Option LineOutcome → Rows
row_as fields None = fields ∷ []
row_as fields (Some outcome.AsItIs) = fields ∷ []
row_as fields (Some outcome.InBook) = []
row_as fields (Some outcome.Doubled) = []
row_as fields (Some (outcome.Filled reference)) = named_row reference fields ∷ []
row_as fields (Some outcome.Left) = []

-- what is written of records, in order, according to the outcomes of their lines; the first record has this number
unfoldable pub rows_by : (Line → LineOutcome) → ℕ → Rows → Rows
rows_by outcome_of number [] = []
rows_by outcome_of number (fields ∷ rest) =
    row_as fields (option_map outcome_of (line_at number fields)) ++ rows_by outcome_of (number + 1) rest

-- the text of records as `csv` writes it by default: a line feed ends each, and a field has quotes if it needs them
abbrev pub text_of : Rows → List ℕ
text_of rows = flat_map (row_text default_writer) rows
