-- The text of records reads as those records.
use Rattle.statement_match.proofs.Names.{◌≡◌, ◌≢◌, ◌∙◌, ◌+◌, ap, ℕ, zero, suc, true, List, [], ◌∷◌, ◌++◌, map, drop, Option, Some, None, refl, inl, inr, cases_Bool, Line, items_after_header, items_from, Rows, line_at, lines_from, rows_of, named_row, row_as, rows_by, text_of, LineOutcome, becomes, IsImported, ReadsBack, statement_text, written_rows, arith, ints, nat_tests}
use Rattle.std.proofs.Common.{option_map}
use Rattle.csv.specs.Machine.{Read, ends_at_end, field_after, fields_after, is_end, next_record, step}
use Rattle.csv.specs.Reading.{default_config, records, records_from, records_next, strip_bom}
use Rattle.csv.specs.Writing.{default_writer, escaped, fields_text, is_blank, read_back, row_text}
use Rattle.csv.specs.declared.parser.Action.{Action}
use Rattle.csv.specs.declared.parser.Action.TheVariants as act
use Rattle.csv.specs.declared.parser.Config.{Config}
use Rattle.csv.specs.declared.parser.State.{State}
use Rattle.csv.specs.declared.parser.State.TheVariants as st
use Rattle.csv.proofs.RoundTrip.{read-write}
use Rattle.byte_streams.specs.CsvRecords.{rest_records}
use Rattle.byte_streams.proofs.CsvRecords.{rest-more, rest-none}
use Rattle.statement_csv.specs.Headers.{header}
use Rattle.statement_lines.specs.declared.line_outcome.LineOutcome.TheVariants as outcome

-- The records of a text that was written.

read_rows : (rows : Rows) → rest_records st.StartRecord (text_of rows) ≡ map read_back rows
unfolding next_record
read_rows [] = rest-none st.StartRecord [] refl
read_rows (row ∷ rows) =
    rest-more st.StartRecord st.StartRecord (row_text default_writer row ++ text_of rows) (text_of rows) (read_back row)
    (read-write row (text_of rows))
    ∙ ap (λ (rest : Rows). read_back row ∷ rest) (read_rows rows)

-- Each record that is read has a field.

-- each of these records has a field
data HaveFields : Rows → Type 0 where
  None_here : HaveFields []
  More : (row : List (List ℕ)) (rows : Rows) → row ≢ [] → HaveFields rows → HaveFields (row ∷ rows)

same_back : (rows : Rows) → HaveFields rows → map read_back rows ≡ rows
same_back [] h = refl
same_back ([] ∷ rows) (More row rest full more) = absurd (full refl)
same_back ((x ∷ xs) ∷ rows) (More row rest full more) = ap (λ (t : Rows). (x ∷ xs) ∷ t) (same_back rows more)

-- a field was added
added : (fields : List (List ℕ)) (field : List ℕ) → fields ++ (field ∷ []) ≢ []
added [] field e = cc
added (x ∷ xs) field e = cc

ended : (a : Action) (fields : List (List ℕ)) (field : List ℕ) → is_end a ≡ true → fields_after a fields field ≢ []
ended a fields field e = grind (arith, ints, nat_tests, added)

fields_read : (cfg : Config) (s : State) (fields : List (List ℕ)) (field xs : List ℕ) (p : Read)
    → next_record cfg s fields field xs ≡ Some p → p.0 ≢ []
unfolding next_record
fields_read cfg s fields field [] p e = grind (arith, ints, nat_tests, cases_Bool, ends_at_end, added)
fields_read cfg s fields field (c ∷ rest) p e = elim (cases_Bool (is_end (step cfg s c).1)) [
  | inl t ↦
      let same : Some (fields_after (step cfg s c).1 fields field, (step cfg s c).0, rest) ≡ Some p = rw t at e in
      let parts : (fields_after (step cfg s c).1 fields field, (step cfg s c).0, rest) ≡ p = cc in
      λ none. ended (step cfg s c).1 fields field t (ap (λ (r : Read). r.0) parts ∙ none)
  | inr t ↦
      fields_read cfg (step cfg s c).0 (fields_after (step cfg s c).1 fields field)
      (field_after (step cfg s c).1 c field) rest p (rw t at e)
]

rows_read : (cfg : Config) (n : ℕ) (s : State) (xs : List ℕ) → HaveFields (records_from cfg n s xs)
unfolding records_from
rows_read cfg zero s xs = None_here
rows_read cfg (suc n) s xs = by (next_record cfg s [] [] xs) refl (λ t y. rows_read cfg n t y)
  where
    by : (o : Option Read) → next_record cfg s [] [] xs ≡ o
        → ((t : State) (y : List ℕ) → HaveFields (records_from cfg n t y))
        → HaveFields (records_next (records_from cfg n) o)
    by None e more = None_here
    by (Some p) e more =
        More p.0 (records_from cfg n p.1 p.2) (fields_read cfg s [] [] xs p e) (more p.1 p.2)

behind_first : (rows : Rows) → HaveFields rows → HaveFields (drop 1 rows)
behind_first rows h = grind (arith, ints, nat_tests)

-- So has each that is written.

written_as_fields : (fields : List (List ℕ)) (found : Option LineOutcome) (rest : Rows) → fields ≢ [] → HaveFields rest
    → HaveFields (row_as fields found ++ rest)
written_as_fields fields None rest full h = More fields rest full h
written_as_fields fields (Some outcome.AsItIs) rest full h = More fields rest full h
written_as_fields fields (Some outcome.InBook) rest full h = h
written_as_fields fields (Some outcome.Doubled) rest full h = h
written_as_fields fields (Some (outcome.Filled r)) rest full h = More (named_row r fields) rest (λ e. cc) h
written_as_fields fields (Some outcome.Left) rest full h = h

written_fields : (outcome_of : Line → LineOutcome) (number : ℕ) (rows : Rows) → HaveFields rows
    → HaveFields (rows_by outcome_of number rows)
unfolding rows_by
written_fields outcome_of number [] h = None_here
written_fields outcome_of number (fields ∷ rest) (More r rs full more) =
    written_as_fields fields (option_map outcome_of (line_at number fields)) _ full
    (written_fields outcome_of (number + 1) rest more)

-- The statement reads as what was written.

-- the header's text begins with no byte order mark
header_plain : (text : List ℕ)
    → strip_bom (row_text default_writer header ++ text) ≡ row_text default_writer header ++ text
unfolding escaped fields_text is_blank strip_bom
header_plain text = refl

pub reads_back : ReadsBack
unfolding statement_text
reads_back today held bytes =
    let rows = written_rows today held (rows_of bytes) in
    let full : HaveFields rows =
    written_fields (becomes today held (lines_from 1 (rows_of bytes))) 1 (rows_of bytes)
    (behind_first _ (rows_read default_config _ st.StartRecord (strip_bom bytes))) in
    ap (records default_config) (header_plain (text_of rows))
    ∙ read_rows (header ∷ rows)
    ∙ same_back (header ∷ rows) (More header rows (λ e. cc) full)

header_is : (rows : Rows) → items_after_header 1 (header ∷ rows) ≡ Some (items_from 1 rows)
header_is rows = refl

pub is_imported : IsImported
is_imported today held bytes =
    ap (items_after_header 1) (reads_back today held bytes) ∙ header_is (written_rows today held (rows_of bytes))
