-- The tables of a book that has no trail yet.
use Rattle.std.specs.Prelude.{[], ◌∷◌, List}
use Rattle.sqlite_schema.specs.declared.schema.Table.{Table}
use Rattle.sqlite_schema.specs.declared.schema.Schema.{Schema}
use Rattle.sql_schema.specs.declared.layout.Layout.{Layout}
use Rattle.sql_schema.specs.declared.layout.Layout.TheVariants.{Made, Moved}
use Rattle.sql_schema.specs.Schema.{book_table, matter_table, seat_table, entry_table, journal_table, sequence_table, firm_line_table, exception_table, balance_table, old_matter_table, old_seat_table, old_entry_table, made_indexes, moved_indexes}

abbrev pub bare_tables : Layout → List Table
bare_tables Made = book_table Made ∷ matter_table Made ∷ seat_table Made ∷ entry_table Made ∷ journal_table Made ∷
    sequence_table Made ∷ firm_line_table Made ∷ exception_table Made ∷ balance_table Made ∷ []
bare_tables Moved = book_table Moved ∷ old_matter_table ∷ old_seat_table ∷ old_entry_table ∷ journal_table Moved ∷
    sequence_table Moved ∷ firm_line_table Moved ∷ exception_table Moved ∷ balance_table Moved ∷ matter_table Moved ∷
    seat_table Moved ∷ entry_table Moved ∷ []

-- laid out as with the trail, which is the last table and has no index
abbrev pub bare_schema : Layout → Schema
bare_schema Made = record { tables = bare_tables Made; indexes = made_indexes; views = [] }
bare_schema Moved = record { tables = bare_tables Moved; indexes = moved_indexes; views = [] }
