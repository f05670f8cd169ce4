-- The schema after each statement of the text that makes the tables. Written by tools/book-tables.
use Rattle.std.proofs.Common.{[], ◌∷◌, refl, codes}
use Rattle.std.specs.Prelude.{true}
use Rattle.sqlite_value.specs.Keys.{plain}
use Rattle.sqlite_schema.specs.declared.schema.Schema.{Schema}
use Rattle.sqlite_tied.specs.Compute.{everything}
use Rattle.sqlite.specs.Listing.{understood}
use Rattle.sql_schema.specs.declared.layout.Layout.TheVariants.{Made}
use Rattle.sql_schema.specs.Schema.{book_schema, book_table, matter_table, seat_table, entry_table, journal_table, firm_line_table, exception_table, balance_table, act_table, sequence_table}
use Rattle.sql_schema.specs.Making.{book_part, matter_part, seat_part, entry_part, journal_part, firm_line_part, exception_part, balance_part, act_part}
use Rattle.sql_making.specs.Books.{no_schema}
use Rattle.sql_making.proofs.Creates.{Creates}

abbrev pub with_book : Schema
with_book = record { tables = book_table Made ∷ []; indexes = []; views = [] }

pub book_creates : Creates no_schema book_part with_book
unfolding understood everything Rattle.sqlite_schema.specs.Names.same_name
book_creates = record { table = record (book_table Made) { tree = 0 }; is = refl; plain = (refl, refl); defined = refl; made = refl }

abbrev pub with_matter : Schema
with_matter = record { tables = book_table Made ∷ matter_table Made ∷ []; indexes = []; views = [] }

pub matter_creates : Creates with_book matter_part with_matter
unfolding understood everything Rattle.sqlite_schema.specs.Names.same_name
matter_creates = record { table = record (matter_table Made) { tree = 0 }; is = refl; plain = (refl, refl); defined = refl; made = refl }

abbrev pub with_seat : Schema
with_seat = record { tables = book_table Made ∷ matter_table Made ∷ seat_table Made ∷ []; indexes = (record { name = codes "sqlite_autoindex_seat_v2_1"; tree = 3; table = 2; columns = 1 ∷ 2 ∷ []; order = plain; is_unique = true }) ∷ []; views = [] }

pub seat_creates : Creates with_matter seat_part with_seat
unfolding understood everything Rattle.sqlite_schema.specs.Names.same_name
seat_creates = record { table = record (seat_table Made) { tree = 0 }; is = refl; plain = (refl, refl); defined = refl; made = refl }

abbrev pub with_entry : Schema
with_entry = record { tables = book_table Made ∷ matter_table Made ∷ seat_table Made ∷ entry_table Made ∷ []; indexes = (record { name = codes "sqlite_autoindex_seat_v2_1"; tree = 3; table = 2; columns = 1 ∷ 2 ∷ []; order = plain; is_unique = true }) ∷ (record { name = codes "sqlite_autoindex_entry_v2_1"; tree = 5; table = 4; columns = 1 ∷ 2 ∷ []; order = plain; is_unique = true }) ∷ []; views = [] }

pub entry_creates : Creates with_seat entry_part with_entry
unfolding understood everything Rattle.sqlite_schema.specs.Names.same_name
entry_creates = record { table = record (entry_table Made) { tree = 0 }; is = refl; plain = (refl, refl); defined = refl; made = refl }

abbrev pub with_journal : Schema
with_journal = record { tables = book_table Made ∷ matter_table Made ∷ seat_table Made ∷ entry_table Made ∷ journal_table Made ∷ sequence_table Made ∷ []; indexes = (record { name = codes "sqlite_autoindex_seat_v2_1"; tree = 3; table = 2; columns = 1 ∷ 2 ∷ []; order = plain; is_unique = true }) ∷ (record { name = codes "sqlite_autoindex_entry_v2_1"; tree = 5; table = 4; columns = 1 ∷ 2 ∷ []; order = plain; is_unique = true }) ∷ []; views = [] }

pub journal_creates : Creates with_entry journal_part with_journal
unfolding understood everything Rattle.sqlite_schema.specs.Names.same_name
journal_creates = record { table = record (journal_table Made) { tree = 0 }; is = refl; plain = (refl, refl); defined = refl; made = refl }

abbrev pub with_firm_line : Schema
with_firm_line = record { tables = book_table Made ∷ matter_table Made ∷ seat_table Made ∷ entry_table Made ∷ journal_table Made ∷ sequence_table Made ∷ firm_line_table Made ∷ []; indexes = (record { name = codes "sqlite_autoindex_seat_v2_1"; tree = 3; table = 2; columns = 1 ∷ 2 ∷ []; order = plain; is_unique = true }) ∷ (record { name = codes "sqlite_autoindex_entry_v2_1"; tree = 5; table = 4; columns = 1 ∷ 2 ∷ []; order = plain; is_unique = true }) ∷ []; views = [] }

pub firm_line_creates : Creates with_journal firm_line_part with_firm_line
unfolding understood everything Rattle.sqlite_schema.specs.Names.same_name
firm_line_creates = record { table = record (firm_line_table Made) { tree = 0 }; is = refl; plain = (refl, refl); defined = refl; made = refl }

abbrev pub with_exception : Schema
with_exception = record { tables = book_table Made ∷ matter_table Made ∷ seat_table Made ∷ entry_table Made ∷ journal_table Made ∷ sequence_table Made ∷ firm_line_table Made ∷ exception_table Made ∷ []; indexes = (record { name = codes "sqlite_autoindex_seat_v2_1"; tree = 3; table = 2; columns = 1 ∷ 2 ∷ []; order = plain; is_unique = true }) ∷ (record { name = codes "sqlite_autoindex_entry_v2_1"; tree = 5; table = 4; columns = 1 ∷ 2 ∷ []; order = plain; is_unique = true }) ∷ (record { name = codes "sqlite_autoindex_exception_1"; tree = 10; table = 9; columns = 1 ∷ 2 ∷ 3 ∷ 4 ∷ 5 ∷ []; order = plain; is_unique = true }) ∷ []; views = [] }

pub exception_creates : Creates with_firm_line exception_part with_exception
unfolding understood everything Rattle.sqlite_schema.specs.Names.same_name
exception_creates = record { table = record (exception_table Made) { tree = 0 }; is = refl; plain = (refl, refl); defined = refl; made = refl }

abbrev pub with_balance : Schema
with_balance = record { tables = book_table Made ∷ matter_table Made ∷ seat_table Made ∷ entry_table Made ∷ journal_table Made ∷ sequence_table Made ∷ firm_line_table Made ∷ exception_table Made ∷ balance_table Made ∷ []; indexes = (record { name = codes "sqlite_autoindex_seat_v2_1"; tree = 3; table = 2; columns = 1 ∷ 2 ∷ []; order = plain; is_unique = true }) ∷ (record { name = codes "sqlite_autoindex_entry_v2_1"; tree = 5; table = 4; columns = 1 ∷ 2 ∷ []; order = plain; is_unique = true }) ∷ (record { name = codes "sqlite_autoindex_exception_1"; tree = 10; table = 9; columns = 1 ∷ 2 ∷ 3 ∷ 4 ∷ 5 ∷ []; order = plain; is_unique = true }) ∷ (record { name = codes "sqlite_autoindex_balance_1"; tree = 12; table = 11; columns = 1 ∷ 2 ∷ []; order = plain; is_unique = true }) ∷ []; views = [] }

pub balance_creates : Creates with_exception balance_part with_balance
unfolding understood everything Rattle.sqlite_schema.specs.Names.same_name
balance_creates = record { table = record (balance_table Made) { tree = 0 }; is = refl; plain = (refl, refl); defined = refl; made = refl }

pub act_creates : Creates with_balance act_part (book_schema Made)
unfolding understood everything Rattle.sqlite_schema.specs.Names.same_name
act_creates = record { table = record (act_table Made) { tree = 0 }; is = refl; plain = (refl, refl); defined = refl; made = refl }
