-- A book's tables as a database schema describes them, for each layout. Written by tools/book-tables.
use Rattle.std.specs.Prelude.{ℕ, ℤ, pos, true, false, [], ◌∷◌, ◌++◌, List, Some, None, codes}
use Rattle.sqlite_value.specs.declared.value.Value.TheVariants.{Null}
use Rattle.sqlite_value.specs.declared.keys.Collation.TheVariants.{Binary}
use Rattle.sqlite_value.specs.Keys.{plain}
use Rattle.sqlite_schema.specs.declared.schema.Kind.{Kind}
use Rattle.sqlite_schema.specs.declared.schema.Kind.TheVariants.{Integer, Text, Any}
use Rattle.sqlite_schema.specs.declared.schema.Action.TheVariants.{NoAction}
use Rattle.sqlite_schema.specs.declared.schema.Column.{Column}
use Rattle.sqlite_schema.specs.declared.schema.Reference.{Reference}
use Rattle.sqlite_schema.specs.declared.schema.Table.{Table}
use Rattle.sqlite_schema.specs.declared.schema.Index.{Index}
use Rattle.sqlite_schema.specs.declared.schema.Schema.{Schema}
use Rattle.sql_schema.specs.declared.layout.Layout.{Layout}
use Rattle.sql_schema.specs.declared.layout.Layout.TheVariants.{Made, Moved}

-- the version number that the table `book` holds for these tables
abbrev pub version_now : ℤ
version_now = pos 2

abbrev pub column : List ℕ → Kind → Column
column name kind = record {
  name = name;
  kind = kind;
  is_strict = true;
  not_null = true;
  default = Null;
  collation = Binary;
}

-- a column of sqlite_sequence, the database's own table of AUTOINCREMENT counts
abbrev pub loose : List ℕ → Column
loose name = record { name = name; kind = Any; is_strict = false; not_null = false; default = Null; collation = Binary }

-- a foreign key from the first column to the number of a matter
abbrev pub reference_to : List ℕ → Reference
reference_to parent = record {
  columns = 1 ∷ [];
  parent = parent;
  parent_columns = codes "no" ∷ [];
  on_delete = NoAction;
  on_update = NoAction;
  is_deferred = false;
}

-- the index of the book table in the list of tables
abbrev pub book_place : Layout → ℕ
book_place l = 0

-- the tree of its rows
abbrev pub book_tree : Layout → ℕ
book_tree l = 0

-- the index of the matter table in the list of tables
abbrev pub matter_place : Layout → ℕ
matter_place Made = 1
matter_place Moved = 9

-- the tree of its rows
abbrev pub matter_tree : Layout → ℕ
matter_tree Made = 1
matter_tree Moved = 13

-- the index of the seat table in the list of tables
abbrev pub seat_place : Layout → ℕ
seat_place Made = 2
seat_place Moved = 10

-- the tree of its rows
abbrev pub seat_tree : Layout → ℕ
seat_tree Made = 2
seat_tree Moved = 14

-- the index of the entry table in the list of tables
abbrev pub entry_place : Layout → ℕ
entry_place Made = 3
entry_place Moved = 11

-- the tree of its rows
abbrev pub entry_tree : Layout → ℕ
entry_tree Made = 4
entry_tree Moved = 16

-- the index of the journal table in the list of tables
abbrev pub journal_place : Layout → ℕ
journal_place l = 4

-- the tree of its rows
abbrev pub journal_tree : Layout → ℕ
journal_tree l = 6

-- the index of the firm_line table in the list of tables
abbrev pub firm_line_place : Layout → ℕ
firm_line_place l = 6

-- the tree of its rows
abbrev pub firm_line_tree : Layout → ℕ
firm_line_tree l = 8

-- the index of the exception table in the list of tables
abbrev pub exception_place : Layout → ℕ
exception_place l = 7

-- the tree of its rows
abbrev pub exception_tree : Layout → ℕ
exception_tree l = 9

-- the index of the balance table in the list of tables
abbrev pub balance_place : Layout → ℕ
balance_place l = 8

-- the tree of its rows
abbrev pub balance_tree : Layout → ℕ
balance_tree l = 11

-- the index of the act table in the list of tables
abbrev pub act_place : Layout → ℕ
act_place Made = 9
act_place Moved = 12

-- the tree of its rows
abbrev pub act_tree : Layout → ℕ
act_tree Made = 13
act_tree Moved = 18

-- the index of the sequence table in the list of tables
abbrev pub sequence_place : Layout → ℕ
sequence_place l = 5

-- the tree of its rows
abbrev pub sequence_tree : Layout → ℕ
sequence_tree l = 7

-- what the tables of this version are called
abbrev pub book_table_name : List ℕ
book_table_name = codes "book"

abbrev pub matter_table_name : List ℕ
matter_table_name = codes "matter_v2"

abbrev pub seat_table_name : List ℕ
seat_table_name = codes "seat_v2"

abbrev pub entry_table_name : List ℕ
entry_table_name = codes "entry_v2"

abbrev pub journal_table_name : List ℕ
journal_table_name = codes "journal"

abbrev pub firm_line_table_name : List ℕ
firm_line_table_name = codes "firm_line"

abbrev pub exception_table_name : List ℕ
exception_table_name = codes "exception"

abbrev pub balance_table_name : List ℕ
balance_table_name = codes "balance"

abbrev pub act_table_name : List ℕ
act_table_name = codes "trail"

abbrev pub book_text : List ℕ
book_text = codes "CREATE TABLE book (version INTEGER NOT NULL) STRICT"

abbrev pub book_table : Layout → Table
book_table l = record {
  name = book_table_name;
  tree = book_tree l;
  columns = column (codes "version") Integer ∷ [];
  key = None;
  primary = [];
  uniques = [];
  orders = [];
  checks = [];
  references = [];
  computed = [];
  stamps = record { places = []; terms = []; formats = [] };
  is_counted = false;
}

abbrev pub old_matter_text : List ℕ
old_matter_text =
    codes "CREATE TABLE matter (no INTEGER NOT NULL PRIMARY KEY, client TEXT NOT NULL, opened INTEGER NOT NULL, " ++
    codes "closed INTEGER NOT NULL, last INTEGER NOT NULL, entries INTEGER NOT NULL, held INTEGER NOT NULL, " ++
    codes "available INTEGER NOT NULL, disputed INTEGER NOT NULL, fees INTEGER NOT NULL, claims INTEGER NOT NULL, " ++
    codes "pending INTEGER NOT NULL) STRICT"

abbrev pub old_matter_table : Table
old_matter_table = record {
  name = codes "matter";
  tree = 1;
  columns = column (codes "no") Integer ∷ column (codes "client") Text ∷ column (codes "opened") Integer ∷
      column (codes "closed") Integer ∷ column (codes "last") Integer ∷ column (codes "entries") Integer ∷
      column (codes "held") Integer ∷ column (codes "available") Integer ∷ column (codes "disputed") Integer ∷
      column (codes "fees") Integer ∷ column (codes "claims") Integer ∷ column (codes "pending") Integer ∷ [];
  key = Some 0;
  primary = 0 ∷ [];
  uniques = [];
  orders = [];
  checks = [];
  references = [];
  computed = [];
  stamps = record { places = []; terms = []; formats = [] };
  is_counted = false;
}

abbrev pub old_seat_text : List ℕ
old_seat_text =
    codes "CREATE TABLE seat (matter INTEGER NOT NULL REFERENCES matter (no), person TEXT NOT NULL, role INTEGER " ++
    codes "NOT NULL, PRIMARY KEY (matter, person)) STRICT"

abbrev pub old_seat_table : Table
old_seat_table = record {
  name = codes "seat";
  tree = 2;
  columns = column (codes "matter") Integer ∷ column (codes "person") Text ∷ column (codes "role") Integer ∷ [];
  key = None;
  primary = 1 ∷ 2 ∷ [];
  uniques = (1 ∷ 2 ∷ []) ∷ [];
  orders = plain ∷ [];
  checks = [];
  references = reference_to (codes "matter") ∷ [];
  computed = [];
  stamps = record { places = []; terms = []; formats = [] };
  is_counted = false;
}

abbrev pub old_entry_text : List ℕ
old_entry_text =
    codes "CREATE TABLE entry (matter INTEGER NOT NULL REFERENCES matter (no), no INTEGER NOT NULL, kind INTEGER " ++
    codes "NOT NULL, day INTEGER NOT NULL, amount INTEGER NOT NULL, state INTEGER NOT NULL, fund INTEGER NOT NULL, " ++
    codes "of_no INTEGER NOT NULL, text_a TEXT NOT NULL, text_b TEXT NOT NULL, text_c TEXT NOT NULL, day_done " ++
    codes "INTEGER NOT NULL, day_undone INTEGER NOT NULL, day_bank INTEGER NOT NULL, bank_ref TEXT NOT NULL, part " ++
    codes "INTEGER NOT NULL, left_now INTEGER NOT NULL, PRIMARY KEY (matter, no)) STRICT"

abbrev pub old_entry_table : Table
old_entry_table = record {
  name = codes "entry";
  tree = 4;
  columns = column (codes "matter") Integer ∷ column (codes "no") Integer ∷ column (codes "kind") Integer ∷
      column (codes "day") Integer ∷ column (codes "amount") Integer ∷ column (codes "state") Integer ∷
      column (codes "fund") Integer ∷ column (codes "of_no") Integer ∷ column (codes "text_a") Text ∷
      column (codes "text_b") Text ∷ column (codes "text_c") Text ∷ column (codes "day_done") Integer ∷
      column (codes "day_undone") Integer ∷ column (codes "day_bank") Integer ∷ column (codes "bank_ref") Text ∷
      column (codes "part") Integer ∷ column (codes "left_now") Integer ∷ [];
  key = None;
  primary = 1 ∷ 2 ∷ [];
  uniques = (1 ∷ 2 ∷ []) ∷ [];
  orders = plain ∷ [];
  checks = [];
  references = reference_to (codes "matter") ∷ [];
  computed = [];
  stamps = record { places = []; terms = []; formats = [] };
  is_counted = false;
}

abbrev pub matter_text : List ℕ
matter_text =
    codes "CREATE TABLE matter_v2 (no INTEGER NOT NULL PRIMARY KEY, client TEXT NOT NULL, opened INTEGER NOT NULL, " ++
    codes "closed INTEGER NOT NULL, last INTEGER NOT NULL, entries INTEGER NOT NULL, held INTEGER NOT NULL, " ++
    codes "available INTEGER NOT NULL, disputed INTEGER NOT NULL, fees INTEGER NOT NULL, claims INTEGER NOT NULL, " ++
    codes "pending INTEGER NOT NULL, purged INTEGER NOT NULL) STRICT"

abbrev pub matter_table : Layout → Table
matter_table l = record {
  name = matter_table_name;
  tree = matter_tree l;
  columns = column (codes "no") Integer ∷ column (codes "client") Text ∷ column (codes "opened") Integer ∷
      column (codes "closed") Integer ∷ column (codes "last") Integer ∷ column (codes "entries") Integer ∷
      column (codes "held") Integer ∷ column (codes "available") Integer ∷ column (codes "disputed") Integer ∷
      column (codes "fees") Integer ∷ column (codes "claims") Integer ∷ column (codes "pending") Integer ∷
      column (codes "purged") Integer ∷ [];
  key = Some 0;
  primary = 0 ∷ [];
  uniques = [];
  orders = [];
  checks = [];
  references = [];
  computed = [];
  stamps = record { places = []; terms = []; formats = [] };
  is_counted = false;
}

abbrev pub seat_text : List ℕ
seat_text =
    codes "CREATE TABLE seat_v2 (matter INTEGER NOT NULL REFERENCES matter_v2 (no), person TEXT NOT NULL, role " ++
    codes "INTEGER NOT NULL, PRIMARY KEY (matter, person)) STRICT"

abbrev pub seat_table : Layout → Table
seat_table l = record {
  name = seat_table_name;
  tree = seat_tree l;
  columns = column (codes "matter") Integer ∷ column (codes "person") Text ∷ column (codes "role") Integer ∷ [];
  key = None;
  primary = 1 ∷ 2 ∷ [];
  uniques = (1 ∷ 2 ∷ []) ∷ [];
  orders = plain ∷ [];
  checks = [];
  references = reference_to matter_table_name ∷ [];
  computed = [];
  stamps = record { places = []; terms = []; formats = [] };
  is_counted = false;
}

abbrev pub entry_text : List ℕ
entry_text =
    codes "CREATE TABLE entry_v2 (matter INTEGER NOT NULL REFERENCES matter_v2 (no), no INTEGER NOT NULL, kind " ++
    codes "INTEGER NOT NULL, day INTEGER NOT NULL, amount INTEGER NOT NULL, state INTEGER NOT NULL, fund INTEGER " ++
    codes "NOT NULL, of_no INTEGER NOT NULL, text_a TEXT NOT NULL, text_b TEXT NOT NULL, text_c TEXT NOT NULL, " ++
    codes "day_done INTEGER NOT NULL, day_undone INTEGER NOT NULL, day_bank INTEGER NOT NULL, bank_ref TEXT NOT " ++
    codes "NULL, part INTEGER NOT NULL, left_now INTEGER NOT NULL, PRIMARY KEY (matter, no)) STRICT"

abbrev pub entry_table : Layout → Table
entry_table l = record {
  name = entry_table_name;
  tree = entry_tree l;
  columns = column (codes "matter") Integer ∷ column (codes "no") Integer ∷ column (codes "kind") Integer ∷
      column (codes "day") Integer ∷ column (codes "amount") Integer ∷ column (codes "state") Integer ∷
      column (codes "fund") Integer ∷ column (codes "of_no") Integer ∷ column (codes "text_a") Text ∷
      column (codes "text_b") Text ∷ column (codes "text_c") Text ∷ column (codes "day_done") Integer ∷
      column (codes "day_undone") Integer ∷ column (codes "day_bank") Integer ∷ column (codes "bank_ref") Text ∷
      column (codes "part") Integer ∷ column (codes "left_now") Integer ∷ [];
  key = None;
  primary = 1 ∷ 2 ∷ [];
  uniques = (1 ∷ 2 ∷ []) ∷ [];
  orders = plain ∷ [];
  checks = [];
  references = reference_to matter_table_name ∷ [];
  computed = [];
  stamps = record { places = []; terms = []; formats = [] };
  is_counted = false;
}

abbrev pub journal_text : List ℕ
journal_text =
    codes "CREATE TABLE journal (seq INTEGER NOT NULL PRIMARY KEY AUTOINCREMENT, matter INTEGER NOT NULL, entry " ++
    codes "INTEGER NOT NULL, day INTEGER NOT NULL, amount INTEGER NOT NULL) STRICT"

abbrev pub journal_table : Layout → Table
journal_table l = record {
  name = journal_table_name;
  tree = journal_tree l;
  columns = column (codes "seq") Integer ∷ column (codes "matter") Integer ∷ column (codes "entry") Integer ∷
      column (codes "day") Integer ∷ column (codes "amount") Integer ∷ [];
  key = Some 0;
  primary = 0 ∷ [];
  uniques = [];
  orders = [];
  checks = [];
  references = [];
  computed = [];
  stamps = record { places = []; terms = []; formats = [] };
  is_counted = true;
}

abbrev pub firm_line_text : List ℕ
firm_line_text =
    codes "CREATE TABLE firm_line (seq INTEGER NOT NULL PRIMARY KEY AUTOINCREMENT, day INTEGER NOT NULL, bank_ref " ++
    codes "TEXT NOT NULL, amount INTEGER NOT NULL, text TEXT NOT NULL) STRICT"

abbrev pub firm_line_table : Layout → Table
firm_line_table l = record {
  name = firm_line_table_name;
  tree = firm_line_tree l;
  columns = column (codes "seq") Integer ∷ column (codes "day") Integer ∷ column (codes "bank_ref") Text ∷
      column (codes "amount") Integer ∷ column (codes "text") Text ∷ [];
  key = Some 0;
  primary = 0 ∷ [];
  uniques = [];
  orders = [];
  checks = [];
  references = [];
  computed = [];
  stamps = record { places = []; terms = []; formats = [] };
  is_counted = true;
}

abbrev pub exception_text : List ℕ
exception_text =
    codes "CREATE TABLE exception (day INTEGER NOT NULL, reference TEXT NOT NULL, bank_ref TEXT NOT NULL, amount " ++
    codes "INTEGER NOT NULL, text TEXT NOT NULL, PRIMARY KEY (day, reference, bank_ref, amount, text)) STRICT"

abbrev pub exception_table : Layout → Table
exception_table l = record {
  name = exception_table_name;
  tree = exception_tree l;
  columns = column (codes "day") Integer ∷ column (codes "reference") Text ∷ column (codes "bank_ref") Text ∷
      column (codes "amount") Integer ∷ column (codes "text") Text ∷ [];
  key = None;
  primary = 1 ∷ 2 ∷ 3 ∷ 4 ∷ 5 ∷ [];
  uniques = (1 ∷ 2 ∷ 3 ∷ 4 ∷ 5 ∷ []) ∷ [];
  orders = plain ∷ [];
  checks = [];
  references = [];
  computed = [];
  stamps = record { places = []; terms = []; formats = [] };
  is_counted = false;
}

abbrev pub balance_text : List ℕ
balance_text =
    codes "CREATE TABLE balance (kind INTEGER NOT NULL, day INTEGER NOT NULL, amount INTEGER NOT NULL, PRIMARY KEY " ++
    codes "(kind, day)) STRICT"

abbrev pub balance_table : Layout → Table
balance_table l = record {
  name = balance_table_name;
  tree = balance_tree l;
  columns = column (codes "kind") Integer ∷ column (codes "day") Integer ∷ column (codes "amount") Integer ∷ [];
  key = None;
  primary = 1 ∷ 2 ∷ [];
  uniques = (1 ∷ 2 ∷ []) ∷ [];
  orders = plain ∷ [];
  checks = [];
  references = [];
  computed = [];
  stamps = record { places = []; terms = []; formats = [] };
  is_counted = false;
}

abbrev pub act_text : List ℕ
act_text =
    codes "CREATE TABLE trail (seq INTEGER NOT NULL PRIMARY KEY AUTOINCREMENT, matter INTEGER NOT NULL, entry " ++
    codes "INTEGER NOT NULL, day INTEGER NOT NULL, deed INTEGER NOT NULL, caller TEXT NOT NULL, text TEXT NOT NULL, " ++
    codes "number INTEGER NOT NULL) STRICT"

abbrev pub act_table : Layout → Table
act_table l = record {
  name = act_table_name;
  tree = act_tree l;
  columns = column (codes "seq") Integer ∷ column (codes "matter") Integer ∷ column (codes "entry") Integer ∷
      column (codes "day") Integer ∷ column (codes "deed") Integer ∷ column (codes "caller") Text ∷
      column (codes "text") Text ∷ column (codes "number") Integer ∷ [];
  key = Some 0;
  primary = 0 ∷ [];
  uniques = [];
  orders = [];
  checks = [];
  references = [];
  computed = [];
  stamps = record { places = []; terms = []; formats = [] };
  is_counted = true;
}

abbrev pub sequence_table : Layout → Table
sequence_table l = record {
  name = codes "sqlite_sequence";
  tree = sequence_tree l;
  columns = loose (codes "name") ∷ loose (codes "seq") ∷ [];
  key = None;
  primary = [];
  uniques = [];
  orders = [];
  checks = [];
  references = [];
  computed = [];
  stamps = record { places = []; terms = []; formats = [] };
  is_counted = false;
}

abbrev pub made_indexes : List Index
made_indexes =
    (record {
      name = codes "sqlite_autoindex_seat_v2_1";
      tree = 3;
      table = 2;
      columns = 1 ∷ 2 ∷ [];
      order = plain;
      is_unique = true;
    }) ∷
    (record {
      name = codes "sqlite_autoindex_entry_v2_1";
      tree = 5;
      table = 4;
      columns = 1 ∷ 2 ∷ [];
      order = plain;
      is_unique = true;
    }) ∷
    (record {
      name = codes "sqlite_autoindex_exception_1";
      tree = 10;
      table = 9;
      columns = 1 ∷ 2 ∷ 3 ∷ 4 ∷ 5 ∷ [];
      order = plain;
      is_unique = true;
    }) ∷
    (record {
      name = codes "sqlite_autoindex_balance_1";
      tree = 12;
      table = 11;
      columns = 1 ∷ 2 ∷ [];
      order = plain;
      is_unique = true;
    }) ∷
    []

abbrev pub made_tables : List Table
made_tables = book_table Made ∷ matter_table Made ∷ seat_table Made ∷ entry_table Made ∷ journal_table Made ∷
    sequence_table Made ∷ firm_line_table Made ∷ exception_table Made ∷ balance_table Made ∷ act_table Made ∷ []

abbrev pub moved_indexes : List Index
moved_indexes =
    (record {
      name = codes "sqlite_autoindex_seat_1";
      tree = 3;
      table = 2;
      columns = 1 ∷ 2 ∷ [];
      order = plain;
      is_unique = true;
    }) ∷
    (record {
      name = codes "sqlite_autoindex_entry_1";
      tree = 5;
      table = 4;
      columns = 1 ∷ 2 ∷ [];
      order = plain;
      is_unique = true;
    }) ∷
    (record {
      name = codes "sqlite_autoindex_exception_1";
      tree = 10;
      table = 9;
      columns = 1 ∷ 2 ∷ 3 ∷ 4 ∷ 5 ∷ [];
      order = plain;
      is_unique = true;
    }) ∷
    (record {
      name = codes "sqlite_autoindex_balance_1";
      tree = 12;
      table = 11;
      columns = 1 ∷ 2 ∷ [];
      order = plain;
      is_unique = true;
    }) ∷
    (record {
      name = codes "sqlite_autoindex_seat_v2_1";
      tree = 15;
      table = 14;
      columns = 1 ∷ 2 ∷ [];
      order = plain;
      is_unique = true;
    }) ∷
    (record {
      name = codes "sqlite_autoindex_entry_v2_1";
      tree = 17;
      table = 16;
      columns = 1 ∷ 2 ∷ [];
      order = plain;
      is_unique = true;
    }) ∷
    []

abbrev pub moved_tables : List Table
moved_tables = book_table Moved ∷ old_matter_table ∷ old_seat_table ∷ old_entry_table ∷ journal_table Moved ∷
    sequence_table Moved ∷ firm_line_table Moved ∷ exception_table Moved ∷ balance_table Moved ∷ matter_table Moved ∷
    seat_table Moved ∷ entry_table Moved ∷ act_table Moved ∷ []

abbrev pub book_schema : Layout → Schema
book_schema Made = record { tables = made_tables; indexes = made_indexes; views = [] }
book_schema Moved = record { tables = moved_tables; indexes = moved_indexes; views = [] }
