-- The result of matching a statement whose references may be empty, over a firm on a business day.
use Rattle.std.specs.Prelude.{ℕ, Bool, List, length, nat_lt}
use Rattle.firm_rows.specs.Firm.{Firm}
use Rattle.firm_rows.specs.declared.ledger.FirmLine.{FirmLine}
use Rattle.statement_lines.specs.Known.{Known}
use Rattle.statement_lines.specs.Records.{records_of}
use Rattle.statement_match.specs.Entries.{known_of}
use Rattle.statement_match.specs.Statements.{statement_text}
use Rattle.statement_match.specs.Unmatched.{Unmatched, unmatched}

pub record Matched : Type 0 where
  -- the statement for the import, in CSV
  pub statement : List ℕ
  -- the records that a person has to look at, and the counts
  pub unmatched : Unmatched

-- a person has to look at a record
abbrev pub is_left : Matched → Bool
is_left m = nat_lt 0 (length m.unmatched.records)

-- the result for a statement of these bytes, with what is known of a book, and the firm's own ledger in it
abbrev pub matched_by : ℕ → Known → List FirmLine → List ℕ → Matched
matched_by today known own bytes = record {
  statement = statement_text today known.held bytes;
  unmatched = unmatched today known own (records_of bytes);
}

-- the result over a firm
unfoldable pub matched : ℕ → Firm → List ℕ → Matched
matched today firm bytes = matched_by today (known_of firm) firm.firm_lines bytes
