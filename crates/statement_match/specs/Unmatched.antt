-- The records of a statement that a person has to look at, and how many others there are.
use Rattle.std.specs.Prelude.{ℕ, Bool, true, false, ◌+◌, ◌-◌, zero, suc, List, [], ◌∷◌, ◌++◌, length, slice_index}
use Rattle.std.specs.Prelude.{Option, Some, None}
use Rattle.std.specs.List.{count_by}
use Rattle.trust_base.specs.declared.line.Line.{Line}
use Rattle.firm_rows.specs.declared.ledger.FirmLine.{FirmLine}
use Rattle.statement_lines.specs.Records.{Records}
use Rattle.statement_lines.specs.Known.{Known}
use Rattle.statement_lines.specs.declared.line_outcome.LineOutcome.{LineOutcome}
use Rattle.statement_lines.specs.declared.line_outcome.LineOutcome.TheVariants as outcome
use Rattle.statement_match.specs.Rule.{becomes, outcomes}
use Rattle.statement_match.specs.OwnLines.{own_before}
use Rattle.statement_match.specs.Reasons.{reason_for}
use Rattle.statement_match.specs.declared.reason.UnmatchedReason.{UnmatchedReason}
use Rattle.statement_match.specs.declared.unmatched.UnmatchedRecord.{UnmatchedRecord}
use Rattle.statement_match.specs.declared.unmatched.UnmatchedRecord.TheVariants as looked_at

pub record Unmatched : Type 0 where
  -- the records that have to be looked at, in order
  pub records : List UnmatchedRecord
  -- how many records are written
  pub written : ℕ
  -- how many records are left out because they are in the book already
  pub booked : ℕ

-- The records, in order, and among them those that are no line.

-- the record with this number, if it has to be looked at
abbrev pub told_by : ℕ → Line → Option UnmatchedReason → List UnmatchedRecord
told_by number line None = []
told_by number line (Some why) = looked_at.OfLine number line why ∷ []

-- `own` is the firm's own ledger after an import of the lines before
abbrev pub told_of_line : ℕ → Known → List FirmLine → Records → ℕ → Line → List UnmatchedRecord
told_of_line today known own records number line =
    told_by number line (reason_for today known own records line (becomes today known.held records.lines line))

-- this many unreadable records, after the record with this number
unfoldable pub told_unreadable : ℕ → ℕ → List UnmatchedRecord
told_unreadable before zero = []
told_unreadable before (suc k) = looked_at.Unreadable (before + 1) ∷ told_unreadable (before + 1) k

-- The records after number `before`, in order: these lines, the first of which has this place, and between them the
-- unreadable records, whose numbers belong to no line. `own` is the firm's own ledger in the book.
unfoldable pub told_from : ℕ → Known → List FirmLine → Records → ℕ → ℕ → List Line → List UnmatchedRecord
told_from today known own records before place [] = told_unreadable before (records.count - before)
told_from today known own records before place (line ∷ lines) =
    told_unreadable before (slice_index records.numbers place - 1 - before)
    ++ (told_of_line today known (own_before today own records.lines place) records (slice_index records.numbers place)
    line
    ++ told_from today known own records (slice_index records.numbers place) (place + 1) lines)

abbrev pub told : ℕ → Known → List FirmLine → Records → List UnmatchedRecord
told today known own records = told_from today known own records 0 0 records.lines

-- The counts.

-- a record is written if it has a reference or is given one
abbrev pub is_written : LineOutcome → Bool
is_written outcome.AsItIs = true
is_written outcome.InBook = false
is_written outcome.Doubled = false
is_written (outcome.Filled reference) = true
is_written outcome.Left = false

-- a record is left out if it is in the book already
abbrev pub is_left_out : LineOutcome → Bool
is_left_out outcome.AsItIs = false
is_left_out outcome.InBook = true
is_left_out outcome.Doubled = false
is_left_out (outcome.Filled reference) = false
is_left_out outcome.Left = false

-- unreadable records are written unchanged
abbrev pub written_count : Records → List LineOutcome → ℕ
written_count records os = (records.count - length records.lines) + count_by is_written os

-- All of it.

unfoldable pub unmatched : ℕ → Known → List FirmLine → Records → Unmatched
unmatched today known own records = record {
  records = told today known own records;
  written = written_count records (outcomes today known.held records.lines);
  booked = count_by is_left_out (outcomes today known.held records.lines);
}
