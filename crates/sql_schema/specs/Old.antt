-- The tables of version 1 as a database schema describes them. Written by tools/book-tables.
use Rattle.std.specs.Prelude.{ℤ, pos, true, [], ◌∷◌, List, codes}
use Rattle.sqlite_value.specs.Keys.{plain}
use Rattle.sqlite_schema.specs.declared.schema.Table.{Table}
use Rattle.sqlite_schema.specs.declared.schema.Index.{Index}
use Rattle.sqlite_schema.specs.declared.schema.Schema.{Schema}
use Rattle.sql_schema.specs.declared.layout.Layout.TheVariants.{Moved}
use Rattle.sql_schema.specs.Schema.{book_table, old_matter_table, old_seat_table, old_entry_table, journal_table, sequence_table, firm_line_table, exception_table, balance_table}

-- the version number that the table `book` holds for these tables
abbrev pub version_then : ℤ
version_then = pos 1

abbrev pub old_indexes : List Index
old_indexes =
    (record {
      name = codes "sqlite_autoindex_seat_1";
      tree = 3;
      table = 2;
      columns = 1 ∷ 2 ∷ [];
      order = plain;
      is_unique = true;
    }) ∷
    (record {
      name = codes "sqlite_autoindex_entry_1";
      tree = 5;
      table = 4;
      columns = 1 ∷ 2 ∷ [];
      order = plain;
      is_unique = true;
    }) ∷
    (record {
      name = codes "sqlite_autoindex_exception_1";
      tree = 10;
      table = 9;
      columns = 1 ∷ 2 ∷ 3 ∷ 4 ∷ 5 ∷ [];
      order = plain;
      is_unique = true;
    }) ∷
    (record {
      name = codes "sqlite_autoindex_balance_1";
      tree = 12;
      table = 11;
      columns = 1 ∷ 2 ∷ [];
      order = plain;
      is_unique = true;
    }) ∷
    []

abbrev pub old_tables : List Table
old_tables = book_table Moved ∷ old_matter_table ∷ old_seat_table ∷ old_entry_table ∷ journal_table Moved ∷
    sequence_table Moved ∷ firm_line_table Moved ∷ exception_table Moved ∷ balance_table Moved ∷ []

-- laid out as in a database whose rows were moved, without the three tables that replaced the old ones and the trail
abbrev pub old_schema : Schema
old_schema = record { tables = old_tables; indexes = old_indexes; views = [] }
