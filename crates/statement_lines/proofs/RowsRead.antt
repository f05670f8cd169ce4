-- The records that a reader of a statement has still to give.
use Rattle.statement_lines.proofs.Names.{◌≡◌, ℕ, true, false, List, [], ◌∷◌, drop, Some, Bor, refl, Reached, ReadRecord, default_config, Ready, reader_config, reader_state, reader_trim, records, source_of, took_first, Rows, HasLeft, left_of, arith, ints, nat_tests}
use Rattle.csv.specs.declared.parser.State.{State}
use Rattle.csv.specs.declared.parser.State.TheVariants as st
use Rattle.csv.specs.declared.reader.Trim.TheVariants as trim
use Rattle.csv.specs.declared.reader.Reader.{Reader}
use Rattle.csv.proofs.ReadFacts.{rows-end, rows-more}
use Rattle.byte_streams.specs.CsvRecords.{rest_records}
use Rattle.byte_streams.proofs.CsvRecords.{rest-none, rest-reached}

start : (s : State) (y : List ℕ) → Reached default_config s y [] s y
unfolding Reached
start s y = (refl, refl)

-- a reader of which nothing was read
pub left-start : (a : Reader (Bor (List ℕ))) (y : List ℕ) → reader_trim a ≡ trim.None → reader_config a ≡ default_config
    → Ready a → source_of left_of a ≡ Some y → reader_state a ≡ st.StartRecord → HasLeft a (records default_config y)
left-start a y plain config ready source state = grind (arith, ints, nat_tests)

-- a record was read: it was the first of those left
pub left-more : (a b : Reader (Bor (List ℕ))) (fields : List (List ℕ)) (rows : Rows) → HasLeft a rows
    → ReadRecord left_of a b true fields → took_first b ≡ true → (rest : Rows) × (rows ≡ fields ∷ rest) × HasLeft b rest
left-more a b fields rows h read first =
    let (z, at_z, reached) = rows-more left_of a b fields default_config a.state h.bytes h.bytes [] h.config h.source (start a.state h.bytes) read in
    grind (arith, ints, nat_tests, rest_records, rest-reached)

-- no record was read: none was left
pub left-none : (a b : Reader (Bor (List ℕ))) (fields : List (List ℕ)) (rows : Rows) → HasLeft a rows
    → ReadRecord left_of a b false fields → rows ≡ []
left-none a b fields rows h read = grind (arith, ints, nat_tests, rest-none, rows-end, left_of, default_config)

-- the first record was read: those behind it are left
pub left-behind : (a b : Reader (Bor (List ℕ))) (fields : List (List ℕ)) (rows : Rows) → HasLeft a rows
    → ReadRecord left_of a b true fields → took_first b ≡ true → HasLeft b (drop 1 rows)
left-behind a b fields rows h read first = grind (arith, ints, nat_tests, left-more)
