-- A book of this version that has no trail yet, and what making one leaves of it.
use Rattle.std.specs.Prelude.{◌≡◌, [], ◌∷◌}
use Rattle.sqlite_value.specs.declared.value.Value.TheVariants.{Int}
use Rattle.sqlite_trees.specs.Tree.{Trees}
use Rattle.sqlite_catalog.specs.Change.{KeepsRows}
use Rattle.sqlite.specs.Effect.{Database, IsDatabase}
use Rattle.sql_schema.specs.declared.layout.Layout.{Layout}
use Rattle.sql_schema.specs.Schema.{book_schema, version_now}
use Rattle.sql_schema.specs.Bare.{bare_schema}
use Rattle.sql_tables.specs.Rows.{heads_in, seats_in, entries_in, movements_in, firm_lines_in, exceptions_in, balances_in}
use Rattle.sql_tables.specs.Lists.{Lists, lists_in}
use Rattle.sql_tables.specs.Standing.{versions_in}
use Rattle.sql_making.specs.Books.{IsBook}

-- the tables of this version without the trail, and the version
pub record IsBareBook (l : Layout) (db : Database) : Type 0 where
  pub schema : db.schema ≡ bare_schema l
  pub version : versions_in l db.trees ≡ Int version_now ∷ []

-- what its tables stand for: no act is known
abbrev pub bare_lists : Layout → Trees → Lists
bare_lists l db = record {
  heads = heads_in l db;
  seats = seats_in l db;
  entries = entries_in l db;
  movements = movements_in l db;
  firm_lines = firm_lines_in l db;
  exceptions = exceptions_in l db;
  balances = balances_in l db;
  acts = [];
}

-- the trail was added, empty; no row of another table changed, and the database lists what it holds
pub record IsExtended (l : Layout) (db next : Database) : Type 0 where
  pub book : IsBook l next
  pub rows : KeepsRows (bare_schema l).tables db.trees next.trees
  pub lists : lists_in l next.trees ≡ bare_lists l db.trees
  pub listed : IsDatabase next

-- the same for the trees alone, since what a crash may leave is given as trees
abbrev pub AreExtended : Layout → Database → Trees → Type 0
AreExtended l db trees = IsExtended l db (record { schema = book_schema l; trees = trees })
