-- Laws of the statement that is written.
use Rattle.std.specs.Prelude.{◌≡◌, ℕ, List, ◌∷◌, Some}
use Rattle.std.specs.List.{Contains}
use Rattle.csv.specs.Reading.{default_config, records, strip_bom}
use Rattle.trust_base.specs.BankTexts.{bank_text_of}
use Rattle.trust_base.specs.declared.line.Line.{Line}
use Rattle.statement_csv.specs.Headers.{header}
use Rattle.statement_csv.specs.Items.{items, items_from}
use Rattle.statement_lines.specs.Records.{records_of, rows_of}
use Rattle.statement_lines.specs.Held.{Held}
use Rattle.statement_lines.specs.Waiting.{Waiting}
use Rattle.statement_match.specs.Laws.{written}
use Rattle.statement_match.specs.Statements.{statement_text, written_rows}

-- the written text is read back as the header and the records that were written, field by field
abbrev pub ReadsBack : Type 0
ReadsBack =
    (today : ℕ) (held : Held) (bytes : List ℕ)
    → records default_config (strip_bom (statement_text today held bytes))
    ≡ header ∷ written_rows today held (rows_of bytes)

-- so an import reads these
abbrev pub IsImported : Type 0
IsImported =
    (today : ℕ) (held : Held) (bytes : List ℕ)
    → items (statement_text today held bytes) ≡ Some (items_from 1 (written_rows today held (rows_of bytes)))

-- a reference that a record can have
abbrev pub IsReference : List ℕ → Type 0
IsReference reference = bank_text_of reference ≡ Some reference

-- the references of what waits in a book are ones that a record can have
abbrev pub HasReferences : Held → Type 0
HasReferences held = (w : Waiting) → Contains held.waiting w → IsReference w.reference

-- the lines of the written text are what is written of each line
abbrev pub HasLinesWritten : Type 0
HasLinesWritten =
    (today : ℕ) (held : Held) (bytes : List ℕ) → HasReferences held
    → (records_of (statement_text today held bytes)).lines ≡ written today held (records_of bytes).lines
