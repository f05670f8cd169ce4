-- What a statement that is being read has yet to return.
use Rattle.std.specs.Prelude.{◌≡◌, ◌≤◌, ◌+◌, ℕ, Bool, true, false, List, [], ◌∷◌, ◌++◌, length, take, Option, Some, None, option_map, ⊤}
use Rattle.csv.specs.Reading.{Reached, Ready, default_config, reader_config, reader_state, reader_trim, source_of, strip_bom}
use Rattle.csv.specs.declared.parser.State.TheVariants as st
use Rattle.csv.specs.declared.reader.Reader.{Reader}
use Rattle.csv.specs.declared.reader.Trim.TheVariants as trim
use Rattle.byte_streams.specs.CsvRecords.{rest_records}
use Rattle.statement_csv.specs.Headers.{is_header}
use Rattle.trust_base.specs.declared.limits.TheConstants.{MAX_FILE_BYTES}
use Rattle.statement_csv.specs.Items.{items, items_after_header, items_from}
use Rattle.statement_csv.specs.Limits.{IsTooLong, IsWithin, Source, left_of}
use Rattle.statement_csv.specs.declared.item.Item.{Item}
use Rattle.statement_csv.specs.declared.item.ReadFault.{ReadFault}
use Rattle.statement_csv.specs.declared.item.ReadFault.TheVariants as fault
use Rattle.statement_csv.specs.declared.item.Stage.{Stage}
use Rattle.statement_csv.specs.declared.item.Stage.TheVariants as stage

-- what contracts see of a statement that is being read
pub record Reading : Type 0 where
  -- the fault that ended the reading, if one did
  pub fault : Option ReadFault
  -- whether the end was reached
  pub is_ended : Bool
  -- if the reader's bytes are known: the remaining items, or None if the header is wrong
  pub left : Option (Option (List Item))

-- what contracts see of a statement's CSV reader
abbrev pub Records : Type 0
Records = Reader Source

-- the unread bytes after the byte order mark, if they are known
abbrev pub unread : Records → Option (List ℕ)
unread rdr = source_of left_of rdr

-- the remaining records, if the bytes are known
abbrev pub records_left : Records → Option (List (List (List ℕ)))
records_left rdr = option_map (rest_records (reader_state rdr)) (unread rdr)

-- the items of the remaining records, given whether the header is still among them, and the number of the first item's
-- record
abbrev pub items_left : Bool → ℕ → List (List (List ℕ)) → Option (List Item)
items_left true number rest = items_after_header number rest
items_left false number rest = Some (items_from number rest)

-- what is left at each stage of the reading
abbrev pub left_in : Stage → ℕ → Option (List (List (List ℕ))) → Option (Option (List Item))
left_in stage.Header number rest = option_map (items_left true number) rest
left_in stage.Items number rest = option_map (items_left false number) rest
left_in stage.Ended number rest = Some (Some [])
left_in (stage.Stopped fault.BadHeader) number rest = Some None
left_in (stage.Stopped fault.Limit) number rest = None
left_in (stage.Stopped fault.Reader) number rest = None
left_in (stage.Stopped fault.Memory) number rest = None

-- the fault recorded in a stage
abbrev pub fault_in : Stage → Option ReadFault
fault_in stage.Header = None
fault_in stage.Items = None
fault_in stage.Ended = None
fault_in (stage.Stopped why) = Some why

-- whether a stage is the end
abbrev pub ended_in : Stage → Bool
ended_in stage.Header = false
ended_in stage.Items = false
ended_in stage.Ended = true
ended_in (stage.Stopped why) = false

-- what contracts see, from the stage and the records
abbrev pub reading_of : Stage → ℕ → Records → Reading
reading_of now number rdr =
    record { fault = fault_in now; is_ended = ended_in now; left = left_in now number (records_left rdr) }

-- a reader that can go on, with the settings for a statement
pub record IsLive (rdr : Records) : Type 0 where
  pub trim : reader_trim rdr ≡ trim.None
  pub config : reader_config rdr ≡ default_config
  pub ready : Ready rdr

-- `rows` are the first records of the statement, read from no more bytes than the length limit, if its bytes are known
abbrev pub HasRead : Option (List ℕ) → List (List (List ℕ)) → Records → Type 0
HasRead whole rows rdr = (bytes : List ℕ) → whole ≡ Some bytes
    → (rest : List ℕ) × (unread rdr ≡ Some rest) × (length bytes ≤ MAX_FILE_BYTES + length rest)
    × Reached default_config st.StartRecord (strip_bom bytes) rows (reader_state rdr) rest

-- the position of the reading: before the header, or after it and all records before record `number`
abbrev pub Stands : Option (List ℕ) → Bool → ℕ → Records → Type 0
Stands whole true number rdr = (number ≡ 1) × HasRead whole [] rdr
Stands whole false number rdr =
    (header : List (List ℕ)) × (rows : List (List (List ℕ))) × (is_header header ≡ true) × (number ≡ 1 + length rows)
    × HasRead whole (header ∷ rows) rdr

-- the items of a prefix of the statement, at most 4,194,304 bytes, were returned, and `left` are the items after them
pub record IsGivenWithin (bytes : List ℕ) (left : List Item) : Type 0 where
  pub given : List Item
  pub size : ℕ
  pub within : size ≤ MAX_FILE_BYTES
  pub front : items (take size bytes) ≡ Some given
  pub whole : items bytes ≡ Some (given ++ left)

-- the same for what is left of a statement, if its bytes are known
abbrev pub GivesWithin : Option (List ℕ) → Option (Option (List Item)) → Type 0
GivesWithin whole left =
    (bytes : List ℕ) → whole ≡ Some bytes → (rest : List Item) × (left ≡ Some (Some rest)) × IsGivenWithin bytes rest

-- what is known of the whole statement after a fault
abbrev pub ToldBy : Option (List ℕ) → ReadFault → Type 0
ToldBy whole fault.BadHeader = ⊤
ToldBy whole fault.Limit = IsTooLong whole
ToldBy whole fault.Reader = ⊤
ToldBy whole fault.Memory = ⊤

-- what is known at each stage
abbrev pub IsSound : Option (List ℕ) → Stage → ℕ → Records → Type 0
IsSound whole stage.Header number rdr = IsLive rdr × Stands whole true number rdr
IsSound whole stage.Items number rdr = IsLive rdr × Stands whole false number rdr
IsSound whole stage.Ended number rdr = IsWithin whole
IsSound whole (stage.Stopped why) number rdr = ToldBy whole why

-- the record, if one was found, was the first of those left
abbrev pub GivesRecord : Option (List (List (List ℕ))) → Option (List (List (List ℕ))) → Bool → List (List ℕ) → Type 0
GivesRecord None new found fields = ⊤
GivesRecord (Some rest) None true fields = ⊥
GivesRecord (Some rest) (Some more) true fields = rest ≡ fields ∷ more
GivesRecord (Some rest) new false fields = rest ≡ []

-- the item, if one was found, was the first of those left; otherwise none was left
abbrev pub Gives : Option (Option (List Item)) → Option (Option (List Item)) → Option Item → Type 0
Gives None new found = ⊤
Gives (Some left) new (Some item) = (more : List Item) × (left ≡ Some (item ∷ more)) × (new ≡ Some (Some more))
Gives (Some left) new None = left ≡ Some []

-- the header is wrong, if the bytes are known
abbrev pub LacksHeader : Option (Option (List Item)) → Type 0
LacksHeader None = ⊤
LacksHeader (Some left) = left ≡ None
