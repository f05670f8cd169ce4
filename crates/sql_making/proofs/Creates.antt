-- What a CREATE TABLE makes of a database that has no row.
use Rattle.sql_making.proofs.Names.{◌≡◌, ℕ, Bool, true, false, List, [], ◌∷◌, ◌++◌, None, Ok, refl, sym, ap, subst, ◌∙◌, AllByRecursion, Trees, Table, Schema, Command, CreateTable, table_defined_by, created, next_tree, KeepsRows, everything, Database, understood, MakesTable, MakesSequence, lacks_sequence, sequence_text, State, ExecutesIn, Runs, text_of, IsPlain, command_of, statement_of, Made, sequence_table, IsBlank, went, same_value, arith, ints, nat_tests}
use Rattle.std.proofs.lemmas.Bool.{cases_Bool}

-- a statement of a batch, as the command that its text means
pub runs_in_batch : (sql : List ℕ) (old new : State) (schema : Schema) (has : old.now.schema ≡ schema) (command : Command) (is : command_of (understood schema sql) ≡ command)
    (plain : IsPlain (understood schema sql)) (count : ℕ) → ExecutesIn true sql [] old new (Ok count) → Runs old new None command (statement_of sql (understood schema sql)) [] count
unfolding ExecutesIn
runs_in_batch sql old new schema has command is plain count h = grind (arith, ints, nat_tests, text_of, cases_Bool)

abbrev sequence : Table
sequence = record (sequence_table Made) { tree = 0 }

sequence_defined : table_defined_by sequence_text ≡ Ok sequence
unfolding everything
sequence_defined = refl

-- AUTOINCREMENT wants the table of counts
abbrev pub counting : Bool → Schema → Schema
counting true schema = created schema sequence
counting false schema = schema

abbrev pub made : Schema → Table → Schema
made schema table = counting (lacks_sequence (created schema table)) (created schema table)

-- what is proved of the text of a CREATE TABLE, by running its meaning
pub record Creates (schema : Schema) (sql : List ℕ) (after : Schema) : Type 0 where
  pub table : Table
  pub is : command_of (understood schema sql) ≡ CreateTable
  pub plain : IsPlain (understood schema sql)
  pub defined : table_defined_by (statement_of sql (understood schema sql)) ≡ Ok table
  pub made : made schema table ≡ after

still_blank : (old new : Trees) (t : Table) (ts : List Table) → AllByRecursion (λ x. old x.tree ≡ []) ts → KeepsRows ts old new → new t.tree ≡ [] → AllByRecursion (λ x. new x.tree ≡ []) (ts ++ t ∷ [])
still_blank old new t [] was keeps none = (none, tt)
still_blank old new t (x ∷ ts) was keeps none = (keeps.0 ∙ was.0, still_blank old new t ts was.1 keeps.1 none)

makes : (text : List ℕ) (table : Table) → table_defined_by text ≡ Ok table → (db after : Database) → IsBlank db → MakesTable text db (Ok after) → (after.schema ≡ created db.schema table) × IsBlank after
makes text table defined db after blank h =
    let same : h.table ≡ table = same_value (sym h.defined ∙ defined) in
    let schema : after.schema ≡ created db.schema table = h.is ∙ ap (created db.schema) same in
    let new : Table = record table { tree = next_tree db.schema } in
    (schema, subst (λ (s : Schema). AllByRecursion (λ t. after.trees t.tree ≡ []) s.tables) (sym schema) (still_blank db.trees after.trees new db.schema.tables blank h.others h.empty))

counts : (db after : Database) → IsBlank db → MakesSequence db (Ok after) → (after.schema ≡ counting (lacks_sequence db.schema) db.schema) × IsBlank after
counts db after blank h = grind (arith, ints, nat_tests, counting, makes, sequence_defined, same_value)

pub creates : (schema : Schema) (sql : List ℕ) (after : Schema) → Creates schema sql after → (old new : State) (count : ℕ) → old.now.schema ≡ schema → IsBlank old.now → ExecutesIn true sql [] old new (Ok count)
    → (new.now.schema ≡ after) × IsBlank new.now
creates schema sql after it old new count has blank h =
    let w = runs_in_batch sql old new schema has CreateTable it.is it.plain count h in
    let all = went w.changed in
    let first = went all.1 in
    let one = makes _ it.table it.defined old.now first.0 blank first.1 in
    grind (arith, ints, nat_tests, counts, same_value, counting, lacks_sequence, created)
