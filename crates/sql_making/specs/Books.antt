-- A database in which a book has just been made, and one from which a book may be taken.
use Rattle.std.specs.Prelude.{◌≡◌, ◌⊎◌, ℕ, pos, false, List, [], ◌∷◌, drop, codes, IsSome}
use Rattle.std.specs.List.{AllByRecursion}
use Rattle.sqlite_disk.specs.Disk.{MoreFaults}
use Rattle.sqlite_value.specs.declared.value.Value.TheVariants.{Int}
use Rattle.sqlite_trees.specs.Tree.{Trees}
use Rattle.sqlite_schema.specs.declared.schema.Schema.{Schema}
use Rattle.sqlite.specs.Effect.{Database, IsDatabase}
use Rattle.sqlite.specs.State.{State}
use Rattle.sql_schema.specs.declared.layout.Layout.{Layout}
use Rattle.sql_schema.specs.declared.layout.Layout.TheVariants.{Made}
use Rattle.sql_schema.specs.Schema.{book_schema, book_tree, version_now}
pub use Rattle.sql_tables.specs.Standing.{versions_in}

abbrev pub no_schema : Schema
no_schema = record { tables = []; indexes = []; views = [] }

-- no table has a row
abbrev pub IsBlank : Database → Type 0
IsBlank db = AllByRecursion (λ t. db.trees t.tree ≡ []) db.schema.tables

-- the SQL text that reads the versions, each with the number of its row
abbrev pub version_text : List ℕ
version_text = codes "SELECT rowid, version FROM book ORDER BY rowid"

-- the tables of a book in a layout, whose first table has one row, with this version
pub record IsBook (l : Layout) (db : Database) : Type 0 where
  pub schema : db.schema ≡ book_schema l
  pub version : versions_in l db.trees ≡ Int version_now ∷ []

-- the newly made tables of a book, with the version row and no other; the database lists what it holds
pub record IsNewBook (db : Database) : Type 0 where
  pub schema : db.schema ≡ book_schema Made
  pub version : db.trees (book_tree Made) ≡ (Int (pos 1) ∷ Int version_now ∷ []) ∷ []
  pub others : AllByRecursion (λ t. db.trees t.tree ≡ []) (drop 1 (book_schema Made).tables)
  pub listed : IsDatabase db

-- the same for the trees alone, since what a crash may leave is given as trees
abbrev pub AreNewBook : Trees → Type 0
AreNewBook trees = IsNewBook (record { schema = book_schema Made; trees = trees })

-- the store reported a fault or was closed before, or the connection has a step limit
abbrev pub HasFailed : State → State → Type 0
HasFailed old new = MoreFaults old.faults new.faults ⊎ ((old.is_open ≡ false) ⊎ IsSome old.step_limit)
