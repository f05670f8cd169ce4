-- The schema after each CREATE TABLE of the text. Written by tools/moving-tables.
use Rattle.std.proofs.Common.{[], ◌∷◌, refl, codes}
use Rattle.std.specs.Prelude.{true}
use Rattle.sqlite_value.specs.Keys.{plain}
use Rattle.sqlite_schema.specs.declared.schema.Schema.{Schema}
use Rattle.sqlite_tied.specs.Compute.{everything}
use Rattle.sqlite.specs.Listing.{understood}
use Rattle.sql_schema.specs.declared.layout.Layout.TheVariants.{Made, Moved}
use Rattle.sql_schema.specs.Schema.{book_schema, book_table, old_matter_table, old_seat_table, old_entry_table, journal_table, sequence_table, firm_line_table, exception_table, balance_table, matter_table, seat_table, entry_table, act_table}
use Rattle.sql_schema.specs.Old.{old_schema}
use Rattle.sql_making.specs.Text.{heads_made_part, seats_made_part, entries_made_part, acts_made_part}
use Rattle.sql_making.proofs.MovedCreates.{Creates}

abbrev pub with_matter : Schema
with_matter = record { tables = book_table Moved ∷ old_matter_table ∷ old_seat_table ∷ old_entry_table ∷ journal_table Moved ∷ sequence_table Moved ∷ firm_line_table Moved ∷ exception_table Moved ∷ balance_table Moved ∷ matter_table Moved ∷ []; indexes = (record { name = codes "sqlite_autoindex_seat_1"; tree = 3; table = 2; columns = 1 ∷ 2 ∷ []; order = plain; is_unique = true }) ∷ (record { name = codes "sqlite_autoindex_entry_1"; tree = 5; table = 4; columns = 1 ∷ 2 ∷ []; order = plain; is_unique = true }) ∷ (record { name = codes "sqlite_autoindex_exception_1"; tree = 10; table = 9; columns = 1 ∷ 2 ∷ 3 ∷ 4 ∷ 5 ∷ []; order = plain; is_unique = true }) ∷ (record { name = codes "sqlite_autoindex_balance_1"; tree = 12; table = 11; columns = 1 ∷ 2 ∷ []; order = plain; is_unique = true }) ∷ []; views = [] }

pub heads_made : Creates old_schema heads_made_part with_matter
unfolding understood everything Rattle.sqlite_schema.specs.Names.same_name
heads_made = record { table = record (matter_table Made) { tree = 0 }; is = refl; plain = (refl, refl); defined = refl; made = refl; unneeded = refl }

abbrev pub with_seat : Schema
with_seat = record { tables = book_table Moved ∷ old_matter_table ∷ old_seat_table ∷ old_entry_table ∷ journal_table Moved ∷ sequence_table Moved ∷ firm_line_table Moved ∷ exception_table Moved ∷ balance_table Moved ∷ matter_table Moved ∷ seat_table Moved ∷ []; indexes = (record { name = codes "sqlite_autoindex_seat_1"; tree = 3; table = 2; columns = 1 ∷ 2 ∷ []; order = plain; is_unique = true }) ∷ (record { name = codes "sqlite_autoindex_entry_1"; tree = 5; table = 4; columns = 1 ∷ 2 ∷ []; order = plain; is_unique = true }) ∷ (record { name = codes "sqlite_autoindex_exception_1"; tree = 10; table = 9; columns = 1 ∷ 2 ∷ 3 ∷ 4 ∷ 5 ∷ []; order = plain; is_unique = true }) ∷ (record { name = codes "sqlite_autoindex_balance_1"; tree = 12; table = 11; columns = 1 ∷ 2 ∷ []; order = plain; is_unique = true }) ∷ (record { name = codes "sqlite_autoindex_seat_v2_1"; tree = 15; table = 14; columns = 1 ∷ 2 ∷ []; order = plain; is_unique = true }) ∷ []; views = [] }

pub seats_made : Creates with_matter seats_made_part with_seat
unfolding understood everything Rattle.sqlite_schema.specs.Names.same_name
seats_made = record { table = record (seat_table Made) { tree = 0 }; is = refl; plain = (refl, refl); defined = refl; made = refl; unneeded = refl }

abbrev pub with_entry : Schema
with_entry = record { tables = book_table Moved ∷ old_matter_table ∷ old_seat_table ∷ old_entry_table ∷ journal_table Moved ∷ sequence_table Moved ∷ firm_line_table Moved ∷ exception_table Moved ∷ balance_table Moved ∷ matter_table Moved ∷ seat_table Moved ∷ entry_table Moved ∷ []; indexes = (record { name = codes "sqlite_autoindex_seat_1"; tree = 3; table = 2; columns = 1 ∷ 2 ∷ []; order = plain; is_unique = true }) ∷ (record { name = codes "sqlite_autoindex_entry_1"; tree = 5; table = 4; columns = 1 ∷ 2 ∷ []; order = plain; is_unique = true }) ∷ (record { name = codes "sqlite_autoindex_exception_1"; tree = 10; table = 9; columns = 1 ∷ 2 ∷ 3 ∷ 4 ∷ 5 ∷ []; order = plain; is_unique = true }) ∷ (record { name = codes "sqlite_autoindex_balance_1"; tree = 12; table = 11; columns = 1 ∷ 2 ∷ []; order = plain; is_unique = true }) ∷ (record { name = codes "sqlite_autoindex_seat_v2_1"; tree = 15; table = 14; columns = 1 ∷ 2 ∷ []; order = plain; is_unique = true }) ∷ (record { name = codes "sqlite_autoindex_entry_v2_1"; tree = 17; table = 16; columns = 1 ∷ 2 ∷ []; order = plain; is_unique = true }) ∷ []; views = [] }

pub entries_made : Creates with_seat entries_made_part with_entry
unfolding understood everything Rattle.sqlite_schema.specs.Names.same_name
entries_made = record { table = record (entry_table Made) { tree = 0 }; is = refl; plain = (refl, refl); defined = refl; made = refl; unneeded = refl }

pub acts_made : Creates with_entry acts_made_part (book_schema Moved)
unfolding understood everything Rattle.sqlite_schema.specs.Names.same_name
acts_made = record { table = record (act_table Made) { tree = 0 }; is = refl; plain = (refl, refl); defined = refl; made = refl; unneeded = refl }
