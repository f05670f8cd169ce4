-- Tables that stand for the rows of a sound firm, and what a crash may leave of them.
use Rattle.std.specs.Prelude.{◌≡◌, ℕ, []}
use Rattle.sqlite_trees.specs.Tree.{Trees}
use Rattle.sqlite.specs.Effect.{Database, IsDatabase}
use Rattle.sqlite.specs.State.{State}
use Rattle.matter_rows.specs.declared.entry.Entry.{Entry}
use Rattle.firm_rows.specs.declared.dismissal.Dismissal.{Dismissal}
use Rattle.firm_rows.specs.Firm.{Firm, empty_firm}
use Rattle.sql_schema.specs.declared.layout.Layout.{Layout}
use Rattle.sql_tables.specs.Lists.{Lists, lists_in}
use Rattle.sql_tables.specs.Standing.{Stands}
use Rattle.sql_rows.specs.Entries.{entry_columns}
use Rattle.sql_rows.specs.Dismissals.{IsDismissal, dismissal_columns}
use Rattle.sql_rows.specs.Meaning.{AreSound, dismissal_from, firm_from, kept_from}

-- the firm whose rows the tables of a layout stand for
abbrev pub firm_in : Layout → Trees → Firm
firm_in l db = firm_from (lists_in l db)

-- the tables of a layout stand, and stand for the rows of a sound firm
pub record StandsSound (l : Layout) (db : Database) : Type 0 where
  pub tables : Stands l db
  pub rows : AreSound (lists_in l db.trees)

-- a crash now may leave tables that stand for this firm
abbrev pub Leaves : Layout → State → Firm → Type 0
Leaves l s firm = (db : Trees) × s.may_leave db × (firm ≡ firm_in l db)

-- these are the trees of a database that lists what it holds, with a book's schema and this version, whose tables
-- stand in this layout for the rows of a sound firm
pub record IsLeftStanding (l : Layout) (trees : Trees) : Type 0 where
  pub db : Database
  pub left : trees ≡ db.trees
  pub listed : IsDatabase db
  pub stands : StandsSound l db

-- whatever a crash leaves now stands like that
abbrev pub Lasts : Layout → State → Type 0
Lasts l s = (trees : Trees) → s.may_leave trees → IsLeftStanding l trees

-- tables without rows
abbrev pub no_lists : Lists
no_lists = record {
  heads = [];
  seats = [];
  entries = [];
  movements = [];
  firm_lines = [];
  exceptions = [];
  balances = [];
  acts = [];
}

-- empty tables stand for the firm without rows
abbrev pub EmptyTablesStand : Type 0
EmptyTablesStand = AreSound no_lists × (firm_from no_lists ≡ empty_firm)

-- an entry read back from its columns is the one that was written, with its number and the amount left of it
abbrev pub EntriesReadBack : Type 0
EntriesReadBack =
    (m n left : ℕ) (e : Entry)
    → kept_from (entry_columns m n left e) ≡ record { number = n; left = left; entry = e }

-- a dismissal read back from its columns is the one that was written: the text of its line has one reading
abbrev pub DismissalsReadBack : Type 0
DismissalsReadBack = (d : Dismissal) → IsDismissal d → dismissal_from (dismissal_columns d) ≡ d
