-- The records that a CSV reader has yet to return.
use Rattle.std.specs.Prelude.{ℕ, ◌+◌, List, length}
use Rattle.csv.specs.Reading.{default_config, records_from}
use Rattle.csv.specs.declared.parser.State.{State}

-- the records in the remaining bytes, if the parser is in this state
abbrev pub rest_records : State → List ℕ → List (List (List ℕ))
rest_records s y = records_from default_config (length y + 1) s y
