-- What the next record of a statement gives of the items that are left.
use Rattle.statement_csv.proofs.Names.{◌≡◌, ◌+◌, ℕ, Bool, true, false, List, [], Option, Some, None, refl, rows-end, rows-more, ReadRecord, Reached, default_config, source_of, is_header, item_of, items_from, left_of, Gives, GivesRecord, Records, items_left, records_left, Item, arith, ints, nat_tests, LacksHeader, Reading}
use Rattle.std.specs.Prelude.{option_map}
use Rattle.csv.specs.declared.parser.State.{State}
use Rattle.statement_csv.specs.declared.item.Stage.{Stage}
use Rattle.statement_csv.specs.declared.item.Stage.TheVariants as stage
use Rattle.byte_streams.proofs.CsvRecords.{rest-none, rest-reached}

-- the records of a statement
abbrev Rows : Type 0
Rows = List (List (List ℕ))

start : (s : State) (y : List ℕ) → Reached default_config s y [] s y
unfolding Reached
start s y = (refl, refl)

-- what a read of a record gives of the records that were left
pub read-gives : (a b : Records) (found : Bool) (f : List (List ℕ)) → a.config ≡ default_config → ReadRecord left_of a b found f → GivesRecord (records_left a) (records_left b) found f
read-gives a b found f e r = by found (source_of left_of a) refl r
  where
    by : (found : Bool) (k : Option (List ℕ)) → source_of left_of a ≡ k → ReadRecord left_of a b found f → GivesRecord (records_left a) (records_left b) found f
    by found None s r = rw s tt
    by true (Some y) s r =
        let (z, at_z, reached) = rows-more left_of a b f default_config a.state y y [] e s (start a.state y) r in
        rw (s, at_z) (rest-reached a.state b.state y z f reached)
    by false (Some y) s r = rw s (rest-none a.state y (rows-end left_of a b f default_config y e s r))

-- a record that was found gives its item
pub gives-item : (n : ℕ) (old new : Option Rows) (fields : List (List ℕ)) → GivesRecord old new true fields → Gives (option_map (items_left false n) old) (option_map (items_left false (n + 1)) new) (Some (item_of n fields))
unfolding items_from
gives-item n old new fields h = grind (arith, ints, nat_tests, items_from)

-- where no record was found no item is left
pub gives-end : (n : ℕ) (old new : Option Rows) (after : Option (Option (List Item))) (fields : List (List ℕ)) → GivesRecord old new false fields → Gives (option_map (items_left false n) old) after None
unfolding items_from
gives-end n old new after fields h = grind (arith, ints, nat_tests)

-- a record that was found and is the header: the items are those of the records after it
pub header-left : (n : ℕ) (old new : Option Rows) (fields : List (List ℕ)) (left : Option (List Item)) → GivesRecord old new true fields → is_header fields ≡ true
    → option_map (items_left true n) old ≡ Some left → option_map (items_left false n) new ≡ Some left
header-left n old new fields left h header is = grind (arith, ints, nat_tests)

-- no record is left, or the first is not the header
pub lacks-header : (n : ℕ) (old new : Option Rows) (found : Bool) (fields : List (List ℕ)) → GivesRecord old new found fields → (found ≡ true → is_header fields ≡ false)
    → LacksHeader (option_map (items_left true n) old)
lacks-header n old new found fields h other = grind (arith, ints, nat_tests)

-- what holds of what is left holds of what was left before, if that is the same or unknown
pub gives-follows : (old now after : Option (Option (List Item))) (found : Option Item) → ((left : Option (List Item)) → old ≡ Some left → now ≡ Some left) → Gives now after found → Gives old after found
gives-follows old now after found same gives = grind (arith, ints, nat_tests)

pub lacks-follows : (old now : Option (Option (List Item))) → ((left : Option (List Item)) → old ≡ Some left → now ≡ Some left) → LacksHeader now → LacksHeader old
lacks-follows old now same lacks = grind (arith, ints, nat_tests)

-- no fault and no end came between, and what was left, if it is known, is left
pub record Follows (old now : Reading) : Type 0 where
  pub fault : now.fault ≡ old.fault
  pub ended : now.is_ended ≡ old.is_ended
  pub left : (left : Option (List Item)) → old.left ≡ Some left → now.left ≡ Some left

-- how many records are read before the items come
abbrev pub to_come : Stage → ℕ
to_come stage.Header = 1
to_come _ = 0
