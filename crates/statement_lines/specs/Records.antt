-- The records of a statement after its header.
use Rattle.std.specs.Prelude.{ℕ, ◌+◌, List, [], ◌∷◌, ◌++◌, drop, length, map, Option, option_to_list}
use Rattle.std.specs.List.{flat_map}
use Rattle.csv.specs.Reading.{default_config, records, strip_bom}
use Rattle.trust_base.specs.declared.line.Line.{Line}
use Rattle.statement_csv.specs.Items.{item_of, items_from, line_in}
use Rattle.statement_csv.specs.declared.item.Item.{Item}

-- records by their fields, as `csv` reads them
abbrev pub Rows : Type 0
Rows = List (List (List ℕ))

-- the records of a statement's bytes after the first, which is taken as its header
abbrev pub rows_of : List ℕ → Rows
rows_of bytes = drop 1 (records default_config (strip_bom bytes))

-- the record with this number as a line, if it is one
abbrev pub line_at : ℕ → List (List ℕ) → Option Line
line_at number fields = line_in (item_of number fields)

-- the lines among items, in their order
abbrev pub lines_among : List Item → List Line
lines_among its = flat_map (λ it. option_to_list (line_in it)) its

-- the lines among records, the first of which has this number
abbrev pub lines_from : ℕ → Rows → List Line
lines_from number rows = lines_among (items_from number rows)

-- the numbers of the records that are lines, if the first record has this number
unfoldable pub numbers_from : ℕ → Rows → List ℕ
numbers_from number [] = []
numbers_from number (fields ∷ rest) =
    map (λ line. number) (option_to_list (line_at number fields)) ++ numbers_from (number + 1) rest

pub record Records : Type 0 where
  -- the records that are valid lines, in order
  pub lines : List Line
  -- the record numbers of these lines; the first of all records has number 1
  pub numbers : List ℕ
  -- how many records there are
  pub count : ℕ

-- the records of a statement of these bytes
unfoldable pub records_of : List ℕ → Records
records_of bytes = record {
  lines = lines_from 1 (rows_of bytes);
  numbers = numbers_from 1 (rows_of bytes);
  count = length (rows_of bytes);
}

-- What is collected from records that are read one at a time.

abbrev pub no_records : Records
no_records = record { lines = []; numbers = []; count = 0 }

abbrev pub with_record : Records → List (List ℕ) → Records
with_record r fields = record {
  lines = r.lines ++ option_to_list (line_at (r.count + 1) fields);
  numbers = r.numbers ++ map (λ line. r.count + 1) (option_to_list (line_at (r.count + 1) fields));
  count = r.count + 1;
}
