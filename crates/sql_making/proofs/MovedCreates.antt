-- What a CREATE TABLE makes of a database that has rows.
use Rattle.sql_making.proofs.Names.{◌≡◌, ℕ, true, false, List, [], Ok, Table, Schema, CreateTable, table_defined_by, created, next_tree, KeepsRows, Database, understood, MakesTable, lacks_sequence, State, ExecutesIn, IsPlain, command_of, statement_of, went, same_value, arith, ints, nat_tests}
use Rattle.sql_making.proofs.Creates.{runs_in_batch}

-- what is proved of the text of a CREATE TABLE, by running its meaning
pub record Creates (schema : Schema) (sql : List ℕ) (after : Schema) : Type 0 where
  pub table : Table
  pub is : command_of (understood schema sql) ≡ CreateTable
  pub plain : IsPlain (understood schema sql)
  pub defined : table_defined_by (statement_of sql (understood schema sql)) ≡ Ok table
  pub made : created schema table ≡ after
  pub unneeded : lacks_sequence (created schema table) ≡ false

-- the table is there and empty, and the others have their rows
pub record HasCreated (schema after : Schema) (old new : Database) : Type 0 where
  pub schema_is : new.schema ≡ after
  pub others : KeepsRows schema.tables old.trees new.trees
  pub empty : new.trees (next_tree schema) ≡ []

makes : (text : List ℕ) (table : Table) → table_defined_by text ≡ Ok table → (schema : Schema) (db after : Database) → db.schema ≡ schema → MakesTable text db (Ok after)
    → HasCreated schema (created schema table) db after
makes text table defined schema db after has h = grind (arith, ints, nat_tests, same_value, created, next_tree)

pub creates : (schema : Schema) (sql : List ℕ) (after : Schema) → Creates schema sql after → (old new : State) (count : ℕ) → old.now.schema ≡ schema → ExecutesIn true sql [] old new (Ok count)
    → HasCreated schema after old.now new.now
creates schema sql after it old new count has h =
    let w = runs_in_batch sql old new schema has CreateTable it.is it.plain count h in
    grind (arith, ints, nat_tests, went, makes, lacks_sequence, same_value)
