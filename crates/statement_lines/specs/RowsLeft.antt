-- The records that a reader of a statement still has to return, and the text that a writer has written.
use Rattle.std.specs.Prelude.{◌≡◌, ◌++◌, ℕ, true, false, List, [], Option, Some, None, ◌==◌, if◌then◌else◌}
use Rattle.std.specs.Borrow.{Bor}
use Rattle.csv.specs.Reading.{Ready, default_config, reader_config, reader_state, reader_trim, source_of}
use Rattle.csv.specs.Writing.{default_writer, fields_written, has_written, text_written, with_flexible, writer_setup}
use Rattle.csv.specs.declared.reader.Reader.{Reader}
use Rattle.csv.specs.declared.reader.Trim.TheVariants as trim
use Rattle.csv.specs.declared.writer.Writer.{Writer}
use Rattle.byte_streams.specs.CsvRecords.{rest_records}
use Rattle.statement_lines.specs.Records.{Rows}
use Rattle.statement_lines.specs.Written.{text_of}
use Rattle.statement_lines.specs.declared.line_outcome.LineOutcome.{LineOutcome}

-- the bytes that a slice has left
abbrev pub left_of : Bor (List ℕ) → Option (List ℕ)
left_of bytes = Some bytes.now

-- a reader still has to return these records
pub record HasLeft (reader : Reader (Bor (List ℕ))) (rows : Rows) : Type 0 where
  pub trim : reader_trim reader ≡ trim.None
  pub config : reader_config reader ≡ default_config
  pub ready : Ready reader
  pub bytes : List ℕ
  pub source : source_of left_of reader ≡ Some bytes
  pub gives : rest_records (reader_state reader) bytes ≡ rows

-- the same if a reader was returned; otherwise there are no records
abbrev pub GivesRows : Option (Reader (Bor (List ℕ))) → Rows → Type 0
GivesRows (Some reader) rows = HasLeft reader rows
GivesRows None rows = rows ≡ []

-- a writer has written this text, and is at the start of a record
pub record Holds {W : Type 0} (contents : W → Option (List ℕ)) (writer : Writer W) (text : List ℕ) : Type 0 where
  pub setup : writer_setup writer ≡ with_flexible default_writer true
  pub starts : fields_written writer ≡ 0
  pub fresh : has_written writer ≡ false
  pub held : text_written contents writer ≡ Some text

-- a writer that was at the start of a record has written the text of these records, and is at the start of a record
-- again
abbrev pub Adds : {W : Type 0} → (W → Option (List ℕ)) → Writer W → Writer W → Rows → Type 0
Adds contents old new rows = (text : List ℕ) → Holds contents old text → Holds contents new (text ++ text_of rows)

-- the outcome of the next line, if it is the record with this number
abbrev pub outcome_if : Option ℕ → ℕ → Option LineOutcome → Option LineOutcome
outcome_if None number next = None
outcome_if (Some line) number next = if line == number then next else None
