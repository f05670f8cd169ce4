-- What the tables of version 1 stand for, and what moving makes of them.
use Rattle.std.specs.Prelude.{◌≡◌, ◌⊎◌, ℤ, pos, List, [], ◌∷◌, map, Result, IfErr, OnOk}
use Rattle.sqlite_value.specs.declared.value.Value.TheVariants.{Null, Int, Text}
use Rattle.sqlite_value.specs.Order.{Row, column, bytes}
use Rattle.sqlite_trees.specs.Tree.{Trees}
use Rattle.sqlite_rules.specs.Edit.{id_in}
use Rattle.sqlite_schema.specs.declared.schema.Schema.{Schema}
use Rattle.sqlite.specs.declared.error.ErrorCode.TheVariants.{OutOfMemory}
use Rattle.sqlite.specs.declared.error.Error.{Error}
use Rattle.sqlite.specs.declared.error.Error.TheVariants.{SqliteFailure}
use Rattle.sqlite.specs.Effect.{Database, IsDatabase}
use Rattle.sqlite.specs.State.{State}
use Rattle.sql_schema.specs.declared.layout.Layout.{Layout}
use Rattle.sql_schema.specs.declared.layout.Layout.TheVariants.{Moved}
use Rattle.sql_schema.specs.Schema.{book_schema, book_tree, seat_tree, entry_tree, journal_tree, sequence_tree, firm_line_tree, exception_tree, balance_tree, old_matter_table, old_seat_table, old_entry_table}
use Rattle.sql_tables.specs.Rows.{Head, seat_in, entry_in, movements_in, firm_lines_in, exceptions_in, balances_in}
use Rattle.sql_tables.specs.Standing.{Holds, SeatsHold, EntriesHold, MovementsHold, FirmLinesHold, ExceptionsHold, BalancesHold, Stands}
use Rattle.sql_tables.specs.Lists.{Lists, lists_in}
use Rattle.sql_tables.specs.Reading.{IsKept}
use Rattle.sql_tables.specs.Script.{IsSettled}
use Rattle.sql_making.specs.Books.{IsBook, HasFailed}
use Rattle.sql_schema.specs.Bare.{bare_schema}
use Rattle.sql_schema.specs.Old.{old_schema, version_then}

-- a row of a version 1 head, which lacks the `purged` column
abbrev pub old_head_row : Head → Row
old_head_row h =
    Int h.no ∷ Null ∷ Text h.client ∷ Int h.opened ∷ Int h.closed ∷ Int h.last ∷ Int h.entries ∷ Int h.held ∷
    Int h.available ∷ Int h.disputed ∷ Int h.fees ∷ Int h.claims ∷ Int h.pending ∷ []

-- the head that such a row stands for, of a matter that was not purged
abbrev pub old_head_in : Row → Head
old_head_in r = record {
  no = id_in (column r 0);
  client = bytes (column r 2);
  opened = id_in (column r 3);
  closed = id_in (column r 4);
  last = id_in (column r 5);
  entries = id_in (column r 6);
  held = id_in (column r 7);
  available = id_in (column r 8);
  disputed = id_in (column r 9);
  fees = id_in (column r 10);
  claims = id_in (column r 11);
  pending = id_in (column r 12);
  purged = pos 0;
}

abbrev pub OldHeadsHold : List Row → Type 0
OldHeadsHold = Holds old_head_row old_head_in (λ (x : Head). x.no)

-- the schema is that of version 1, and each table holds rows with the kinds of its columns, in rowid order
pub record Stood (db : Database) : Type 0 where
  pub schema : db.schema ≡ old_schema
  pub heads : OldHeadsHold (db.trees old_matter_table.tree)
  pub seats : SeatsHold (db.trees old_seat_table.tree)
  pub entries : EntriesHold (db.trees old_entry_table.tree)
  pub movements : MovementsHold (db.trees (journal_tree Moved))
  pub firm_lines : FirmLinesHold (db.trees (firm_line_tree Moved))
  pub exceptions : ExceptionsHold (db.trees (exception_tree Moved))
  pub balances : BalancesHold (db.trees (balance_tree Moved))

-- what the tables of version 1 stand for: no act is known
abbrev pub lists_then : Trees → Lists
lists_then db = record {
  heads = map old_head_in (db old_matter_table.tree);
  seats = map seat_in (db old_seat_table.tree);
  entries = map entry_in (db old_entry_table.tree);
  movements = movements_in Moved db;
  firm_lines = firm_lines_in Moved db;
  exceptions = exceptions_in Moved db;
  balances = balances_in Moved db;
  acts = [];
}

-- the number and the version of each row of the first table
abbrev pub numbered_versions : Trees → List Row
numbered_versions db = map (λ (r : Row). column r 0 ∷ column r 1 ∷ []) (db (book_tree Moved))

-- the schema of a book of either version, with the trail or without it, whose first table has its versions
abbrev pub HasVersions : Schema → Type 0
HasVersions s = (s ≡ old_schema) ⊎ (((l : Layout) × (s ≡ book_schema l)) ⊎ ((l : Layout) × (s ≡ bare_schema l)))

-- a look at the versions leaves all as it was, and fails for want of memory or since the store failed
pub record IsLook {T : Type 0} (result : Result T Error) (old new : State) : Type 0 where
  pub settled : OnOk result (IsSettled new × IsKept old new)
  pub told : IfErr result (λ e. (e ≡ SqliteFailure OutOfMemory) ⊎ HasFailed old new)

-- the tables of version 1, whose first table has one numbered row, with version 1
pub record IsOldBook (db : Database) : Type 0 where
  pub schema : db.schema ≡ old_schema
  pub id : ℤ
  pub version : numbered_versions db.trees ≡ (Int id ∷ Int version_then ∷ []) ∷ []

-- the tables that version 2 keeps are unchanged, and so is the database's own table of counts
pub record KeepsTables (db next : Trees) : Type 0 where
  pub movements : next (journal_tree Moved) ≡ db (journal_tree Moved)
  pub firm_lines : next (firm_line_tree Moved) ≡ db (firm_line_tree Moved)
  pub exceptions : next (exception_tree Moved) ≡ db (exception_tree Moved)
  pub balances : next (balance_tree Moved) ≡ db (balance_tree Moved)
  pub counts : next (sequence_tree Moved) ≡ db (sequence_tree Moved)

-- if the old tables stood for records, the new ones stand for the same, row by row, and for no act; the old three are
-- empty
pub record SameRows (db next : Database) : Type 0 where
  pub stands : Stands Moved next
  pub lists : lists_in Moved next.trees ≡ lists_then db.trees
  pub seats : next.trees (seat_tree Moved) ≡ db.trees old_seat_table.tree
  pub entries : next.trees (entry_tree Moved) ≡ db.trees old_entry_table.tree
  pub no_old_heads : next.trees old_matter_table.tree ≡ []
  pub no_old_seats : next.trees old_seat_table.tree ≡ []
  pub no_old_entries : next.trees old_entry_table.tree ≡ []

-- a book of this version, made from one of version 1, in a database that lists what it holds
pub record IsMoved (db next : Database) : Type 0 where
  pub book : IsBook Moved next
  pub listed : IsDatabase next
  pub keeps : KeepsTables db.trees next.trees
  pub same : Stood db → SameRows db next

-- the same for the trees alone, since what a crash may leave is given as trees
abbrev pub AreMoved : Database → Trees → Type 0
AreMoved db trees = IsMoved db (record { schema = book_schema Moved; trees = trees })
