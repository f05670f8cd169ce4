-- The SQL text of each statement, and its meaning. Written by tools/book-tables.
use Rattle.std.specs.Prelude.{ℕ, false, [], ◌∷◌, ◌++◌, List, None, codes, pos, negsuc}
use Rattle.sqlite_value.specs.declared.value.Value.TheVariants.{Null, Int, Text}
use Rattle.sqlite_value.specs.declared.keys.Collation.TheVariants.{Binary}
use Rattle.sqlite_sql.specs.declared.ops.BinaryOp.TheVariants.{Compare}
use Rattle.sqlite_sql.specs.declared.ops.CompareOp.TheVariants.{Eq, Gt, Ne}
use Rattle.sqlite_sql.specs.Query.{Query, inner, end}
use Rattle.sqlite_sql.specs.Term.{Term, col, lit, op2}
use Rattle.sqlite_schema.specs.declared.command.Conflict.TheVariants.{Ignore, Replace}
use Rattle.sqlite_schema.specs.declared.command.Source.TheVariants.{Values}
use Rattle.sqlite_schema.specs.declared.command.Command.{Command}
use Rattle.sqlite_schema.specs.declared.command.Command.TheVariants.{Insert, InsertOr, Update, Delete}
use Rattle.sql_schema.specs.declared.layout.Layout.{Layout}
use Rattle.sql_schema.specs.Schema.{matter_tree, matter_place, seat_tree, seat_place, entry_tree, entry_place, journal_tree, journal_place, firm_line_tree, firm_line_place, exception_tree, exception_place, balance_tree, balance_place, act_tree, act_place}

abbrev pub head_read_text : List ℕ
head_read_text =
    codes "SELECT client, opened, closed, last, entries, held, available, disputed, fees, claims, pending, purged " ++
    codes "FROM matter_v2 WHERE no = ?1 ORDER BY rowid"

abbrev pub head_read_query : Layout → Query
head_read_query l = record {
  from = inner (matter_tree l) end;
  filter = op2 (Compare Eq Binary) (col 1 0) (col 0 0) ∷ [];
  group = None;
  project = col 1 2 ∷ col 1 3 ∷ col 1 4 ∷ col 1 5 ∷ col 1 6 ∷ col 1 7 ∷ col 1 8 ∷ col 1 9 ∷ col 1 10 ∷ col 1 11 ∷
      col 1 12 ∷ col 1 13 ∷ [];
  distinct = false;
  collations = [];
  order = (col 1 0, record { collation = Binary; descending = false }) ∷ [];
  limit = lit (Int (negsuc 0));
  offset = lit (Int (pos 0));
}

abbrev pub head_read_names : List (List ℕ)
head_read_names = codes "client" ∷ codes "opened" ∷ codes "closed" ∷ codes "last" ∷ codes "entries" ∷ codes "held" ∷
    codes "available" ∷ codes "disputed" ∷ codes "fees" ∷ codes "claims" ∷ codes "pending" ∷ codes "purged" ∷ []

abbrev pub next_head_text : List ℕ
next_head_text =
    codes "SELECT client, opened, closed, last, entries, held, available, disputed, fees, claims, pending, purged, " ++
    codes "no FROM matter_v2 WHERE no > ?1 ORDER BY no LIMIT 1"

abbrev pub next_head_query : Layout → Query
next_head_query l = record {
  from = inner (matter_tree l) end;
  filter = op2 (Compare Gt Binary) (col 1 0) (col 0 0) ∷ [];
  group = None;
  project = col 1 2 ∷ col 1 3 ∷ col 1 4 ∷ col 1 5 ∷ col 1 6 ∷ col 1 7 ∷ col 1 8 ∷ col 1 9 ∷ col 1 10 ∷ col 1 11 ∷
      col 1 12 ∷ col 1 13 ∷ col 1 0 ∷ [];
  distinct = false;
  collations = [];
  order = (col 1 0, record { collation = Binary; descending = false }) ∷ [];
  limit = lit (Int (pos 1));
  offset = lit (Int (pos 0));
}

abbrev pub next_head_names : List (List ℕ)
next_head_names = codes "client" ∷ codes "opened" ∷ codes "closed" ∷ codes "last" ∷ codes "entries" ∷ codes "held" ∷
    codes "available" ∷ codes "disputed" ∷ codes "fees" ∷ codes "claims" ∷ codes "pending" ∷ codes "purged" ∷
    codes "no" ∷ []

abbrev pub head_scan_text : List ℕ
head_scan_text = codes "SELECT no FROM matter_v2 ORDER BY no"

abbrev pub head_scan_query : Layout → Query
head_scan_query l = record {
  from = inner (matter_tree l) end;
  filter = [];
  group = None;
  project = col 1 0 ∷ [];
  distinct = false;
  collations = [];
  order = (col 1 0, record { collation = Binary; descending = false }) ∷ [];
  limit = lit (Int (negsuc 0));
  offset = lit (Int (pos 0));
}

abbrev pub head_scan_names : List (List ℕ)
head_scan_names = codes "no" ∷ []

abbrev pub seats_read_text : List ℕ
seats_read_text = codes "SELECT person, role FROM seat_v2 WHERE matter = ?1 ORDER BY person, rowid"

abbrev pub seats_read_query : Layout → Query
seats_read_query l = record {
  from = inner (seat_tree l) end;
  filter = op2 (Compare Eq Binary) (col 1 1) (col 0 0) ∷ [];
  group = None;
  project = col 1 2 ∷ col 1 3 ∷ [];
  distinct = false;
  collations = [];
  order = (col 1 2, record { collation = Binary; descending = false }) ∷
      (col 1 0, record { collation = Binary; descending = false }) ∷ [];
  limit = lit (Int (negsuc 0));
  offset = lit (Int (pos 0));
}

abbrev pub seats_read_names : List (List ℕ)
seats_read_names = codes "person" ∷ codes "role" ∷ []

abbrev pub entries_read_text : List ℕ
entries_read_text =
    codes "SELECT no, kind, day, amount, state, fund, of_no, text_a, text_b, text_c, day_done, day_undone, " ++
    codes "day_bank, bank_ref, part, left_now FROM entry_v2 WHERE matter = ?1 ORDER BY no, rowid"

abbrev pub entries_read_query : Layout → Query
entries_read_query l = record {
  from = inner (entry_tree l) end;
  filter = op2 (Compare Eq Binary) (col 1 1) (col 0 0) ∷ [];
  group = None;
  project = col 1 2 ∷ col 1 3 ∷ col 1 4 ∷ col 1 5 ∷ col 1 6 ∷ col 1 7 ∷ col 1 8 ∷ col 1 9 ∷ col 1 10 ∷ col 1 11 ∷
      col 1 12 ∷ col 1 13 ∷ col 1 14 ∷ col 1 15 ∷ col 1 16 ∷ col 1 17 ∷ [];
  distinct = false;
  collations = [];
  order = (col 1 2, record { collation = Binary; descending = false }) ∷
      (col 1 0, record { collation = Binary; descending = false }) ∷ [];
  limit = lit (Int (negsuc 0));
  offset = lit (Int (pos 0));
}

abbrev pub entries_read_names : List (List ℕ)
entries_read_names = codes "no" ∷ codes "kind" ∷ codes "day" ∷ codes "amount" ∷ codes "state" ∷ codes "fund" ∷
    codes "of_no" ∷ codes "text_a" ∷ codes "text_b" ∷ codes "text_c" ∷ codes "day_done" ∷ codes "day_undone" ∷
    codes "day_bank" ∷ codes "bank_ref" ∷ codes "part" ∷ codes "left_now" ∷ []

abbrev pub entry_read_text : List ℕ
entry_read_text =
    codes "SELECT no, kind, day, amount, state, fund, of_no, text_a, text_b, text_c, day_done, day_undone, " ++
    codes "day_bank, bank_ref, part, left_now FROM entry_v2 WHERE matter = ?1 AND no = ?2 ORDER BY rowid"

abbrev pub entry_read_query : Layout → Query
entry_read_query l = record {
  from = inner (entry_tree l) end;
  filter = op2 (Compare Eq Binary) (col 1 1) (col 0 0) ∷ op2 (Compare Eq Binary) (col 1 2) (col 0 1) ∷ [];
  group = None;
  project = col 1 2 ∷ col 1 3 ∷ col 1 4 ∷ col 1 5 ∷ col 1 6 ∷ col 1 7 ∷ col 1 8 ∷ col 1 9 ∷ col 1 10 ∷ col 1 11 ∷
      col 1 12 ∷ col 1 13 ∷ col 1 14 ∷ col 1 15 ∷ col 1 16 ∷ col 1 17 ∷ [];
  distinct = false;
  collations = [];
  order = (col 1 0, record { collation = Binary; descending = false }) ∷ [];
  limit = lit (Int (negsuc 0));
  offset = lit (Int (pos 0));
}

abbrev pub entry_read_names : List (List ℕ)
entry_read_names = codes "no" ∷ codes "kind" ∷ codes "day" ∷ codes "amount" ∷ codes "state" ∷ codes "fund" ∷
    codes "of_no" ∷ codes "text_a" ∷ codes "text_b" ∷ codes "text_c" ∷ codes "day_done" ∷ codes "day_undone" ∷
    codes "day_bank" ∷ codes "bank_ref" ∷ codes "part" ∷ codes "left_now" ∷ []

abbrev pub balance_read_text : List ℕ
balance_read_text = codes "SELECT amount FROM balance WHERE kind = ?1 AND day = ?2 ORDER BY rowid"

abbrev pub balance_read_query : Layout → Query
balance_read_query l = record {
  from = inner (balance_tree l) end;
  filter = op2 (Compare Eq Binary) (col 1 1) (col 0 0) ∷ op2 (Compare Eq Binary) (col 1 2) (col 0 1) ∷ [];
  group = None;
  project = col 1 3 ∷ [];
  distinct = false;
  collations = [];
  order = (col 1 0, record { collation = Binary; descending = false }) ∷ [];
  limit = lit (Int (negsuc 0));
  offset = lit (Int (pos 0));
}

abbrev pub balance_read_names : List (List ℕ)
balance_read_names = codes "amount" ∷ []

abbrev pub journal_scan_text : List ℕ
journal_scan_text = codes "SELECT matter, entry, day, amount FROM journal ORDER BY seq"

abbrev pub journal_scan_query : Layout → Query
journal_scan_query l = record {
  from = inner (journal_tree l) end;
  filter = [];
  group = None;
  project = col 1 2 ∷ col 1 3 ∷ col 1 4 ∷ col 1 5 ∷ [];
  distinct = false;
  collations = [];
  order = (col 1 0, record { collation = Binary; descending = false }) ∷ [];
  limit = lit (Int (negsuc 0));
  offset = lit (Int (pos 0));
}

abbrev pub journal_scan_names : List (List ℕ)
journal_scan_names = codes "matter" ∷ codes "entry" ∷ codes "day" ∷ codes "amount" ∷ []

abbrev pub firm_scan_text : List ℕ
firm_scan_text = codes "SELECT day, bank_ref, amount, text FROM firm_line ORDER BY seq"

abbrev pub firm_scan_query : Layout → Query
firm_scan_query l = record {
  from = inner (firm_line_tree l) end;
  filter = [];
  group = None;
  project = col 1 2 ∷ col 1 3 ∷ col 1 4 ∷ col 1 5 ∷ [];
  distinct = false;
  collations = [];
  order = (col 1 0, record { collation = Binary; descending = false }) ∷ [];
  limit = lit (Int (negsuc 0));
  offset = lit (Int (pos 0));
}

abbrev pub firm_scan_names : List (List ℕ)
firm_scan_names = codes "day" ∷ codes "bank_ref" ∷ codes "amount" ∷ codes "text" ∷ []

abbrev pub exception_scan_text : List ℕ
exception_scan_text =
    codes "SELECT day, reference, bank_ref, amount, text FROM exception ORDER BY day, reference, bank_ref, amount, " ++
    codes "text, rowid"

abbrev pub exception_scan_query : Layout → Query
exception_scan_query l = record {
  from = inner (exception_tree l) end;
  filter = [];
  group = None;
  project = col 1 1 ∷ col 1 2 ∷ col 1 3 ∷ col 1 4 ∷ col 1 5 ∷ [];
  distinct = false;
  collations = [];
  order = (col 1 1, record { collation = Binary; descending = false }) ∷
      (col 1 2, record { collation = Binary; descending = false }) ∷
      (col 1 3, record { collation = Binary; descending = false }) ∷
      (col 1 4, record { collation = Binary; descending = false }) ∷
      (col 1 5, record { collation = Binary; descending = false }) ∷
      (col 1 0, record { collation = Binary; descending = false }) ∷ [];
  limit = lit (Int (negsuc 0));
  offset = lit (Int (pos 0));
}

abbrev pub exception_scan_names : List (List ℕ)
exception_scan_names = codes "day" ∷ codes "reference" ∷ codes "bank_ref" ∷ codes "amount" ∷ codes "text" ∷ []

abbrev pub balance_scan_text : List ℕ
balance_scan_text = codes "SELECT kind, day, amount FROM balance ORDER BY kind, day, rowid"

abbrev pub balance_scan_query : Layout → Query
balance_scan_query l = record {
  from = inner (balance_tree l) end;
  filter = [];
  group = None;
  project = col 1 1 ∷ col 1 2 ∷ col 1 3 ∷ [];
  distinct = false;
  collations = [];
  order = (col 1 1, record { collation = Binary; descending = false }) ∷
      (col 1 2, record { collation = Binary; descending = false }) ∷
      (col 1 0, record { collation = Binary; descending = false }) ∷ [];
  limit = lit (Int (negsuc 0));
  offset = lit (Int (pos 0));
}

abbrev pub balance_scan_names : List (List ℕ)
balance_scan_names = codes "kind" ∷ codes "day" ∷ codes "amount" ∷ []

abbrev pub head_write_text : List ℕ
head_write_text =
    codes "INSERT OR REPLACE INTO matter_v2 (no, client, opened, closed, last, entries, held, available, disputed, " ++
    codes "fees, claims, pending, purged) VALUES (?1, ?2, ?3, ?4, ?5, ?6, ?7, ?8, ?9, ?10, ?11, ?12, ?13)"

abbrev pub head_write_terms : List Term
head_write_terms = col 0 0 ∷ lit Null ∷ col 0 1 ∷ col 0 2 ∷ col 0 3 ∷ col 0 4 ∷ col 0 5 ∷ col 0 6 ∷ col 0 7 ∷
    col 0 8 ∷ col 0 9 ∷ col 0 10 ∷ col 0 11 ∷ col 0 12 ∷ []

abbrev pub head_write_command : Layout → Command
head_write_command l = InsertOr (matter_place l) Replace (Values head_write_terms 14) []

abbrev pub totals_write_text : List ℕ
totals_write_text =
    codes "UPDATE matter_v2 SET last = ?2, entries = ?3, held = ?4, available = ?5, disputed = ?6, fees = ?7, " ++
    codes "claims = ?8, pending = ?9 WHERE no = ?1"

abbrev pub totals_write_query : Layout → Query
totals_write_query l = record {
  from = inner (matter_tree l) end;
  filter = op2 (Compare Eq Binary) (col 1 0) (col 0 0) ∷ [];
  group = None;
  project = col 1 0 ∷ col 1 0 ∷ lit Null ∷ col 1 2 ∷ col 1 3 ∷ col 1 4 ∷ col 0 1 ∷ col 0 2 ∷ col 0 3 ∷ col 0 4 ∷
      col 0 5 ∷ col 0 6 ∷ col 0 7 ∷ col 0 8 ∷ col 1 13 ∷ [];
  distinct = false;
  collations = [];
  order = [];
  limit = lit (Int (negsuc 0));
  offset = lit (Int (pos 0));
}

abbrev pub totals_write_command : Layout → Command
totals_write_command l = Update (matter_place l) (record { lets = []; body = totals_write_query l })

abbrev pub closed_write_text : List ℕ
closed_write_text = codes "UPDATE matter_v2 SET closed = ?2 WHERE no = ?1"

abbrev pub closed_write_query : Layout → Query
closed_write_query l = record {
  from = inner (matter_tree l) end;
  filter = op2 (Compare Eq Binary) (col 1 0) (col 0 0) ∷ [];
  group = None;
  project = col 1 0 ∷ col 1 0 ∷ lit Null ∷ col 1 2 ∷ col 1 3 ∷ col 0 1 ∷ col 1 5 ∷ col 1 6 ∷ col 1 7 ∷ col 1 8 ∷
      col 1 9 ∷ col 1 10 ∷ col 1 11 ∷ col 1 12 ∷ col 1 13 ∷ [];
  distinct = false;
  collations = [];
  order = [];
  limit = lit (Int (negsuc 0));
  offset = lit (Int (pos 0));
}

abbrev pub closed_write_command : Layout → Command
closed_write_command l = Update (matter_place l) (record { lets = []; body = closed_write_query l })

abbrev pub purged_write_text : List ℕ
purged_write_text = codes "UPDATE matter_v2 SET client = '', purged = ?2 WHERE no = ?1"

abbrev pub purged_write_query : Layout → Query
purged_write_query l = record {
  from = inner (matter_tree l) end;
  filter = op2 (Compare Eq Binary) (col 1 0) (col 0 0) ∷ [];
  group = None;
  project = col 1 0 ∷ col 1 0 ∷ lit Null ∷ lit (Text []) ∷ col 1 3 ∷ col 1 4 ∷ col 1 5 ∷ col 1 6 ∷ col 1 7 ∷ col 1 8 ∷
      col 1 9 ∷ col 1 10 ∷ col 1 11 ∷ col 1 12 ∷ col 0 1 ∷ [];
  distinct = false;
  collations = [];
  order = [];
  limit = lit (Int (negsuc 0));
  offset = lit (Int (pos 0));
}

abbrev pub purged_write_command : Layout → Command
purged_write_command l = Update (matter_place l) (record { lets = []; body = purged_write_query l })

abbrev pub entry_write_text : List ℕ
entry_write_text =
    codes "INSERT OR REPLACE INTO entry_v2 (matter, no, kind, day, amount, state, fund, of_no, text_a, text_b, " ++
    codes "text_c, day_done, day_undone, day_bank, bank_ref, part, left_now) VALUES (?1, ?2, ?3, ?4, ?5, ?6, ?7, " ++
    codes "?8, ?9, ?10, ?11, ?12, ?13, ?14, ?15, ?16, ?17)"

abbrev pub entry_write_terms : List Term
entry_write_terms = lit Null ∷ col 0 0 ∷ col 0 1 ∷ col 0 2 ∷ col 0 3 ∷ col 0 4 ∷ col 0 5 ∷ col 0 6 ∷ col 0 7 ∷
    col 0 8 ∷ col 0 9 ∷ col 0 10 ∷ col 0 11 ∷ col 0 12 ∷ col 0 13 ∷ col 0 14 ∷ col 0 15 ∷ col 0 16 ∷ []

abbrev pub entry_write_command : Layout → Command
entry_write_command l = InsertOr (entry_place l) Replace (Values entry_write_terms 18) []

abbrev pub left_write_text : List ℕ
left_write_text = codes "UPDATE entry_v2 SET left_now = ?3 WHERE matter = ?1 AND no = ?2"

abbrev pub left_write_query : Layout → Query
left_write_query l = record {
  from = inner (entry_tree l) end;
  filter = op2 (Compare Eq Binary) (col 1 1) (col 0 0) ∷ op2 (Compare Eq Binary) (col 1 2) (col 0 1) ∷ [];
  group = None;
  project = col 1 0 ∷ col 1 0 ∷ col 1 1 ∷ col 1 2 ∷ col 1 3 ∷ col 1 4 ∷ col 1 5 ∷ col 1 6 ∷ col 1 7 ∷ col 1 8 ∷
      col 1 9 ∷ col 1 10 ∷ col 1 11 ∷ col 1 12 ∷ col 1 13 ∷ col 1 14 ∷ col 1 15 ∷ col 1 16 ∷ col 0 2 ∷ [];
  distinct = false;
  collations = [];
  order = [];
  limit = lit (Int (negsuc 0));
  offset = lit (Int (pos 0));
}

abbrev pub left_write_command : Layout → Command
left_write_command l = Update (entry_place l) (record { lets = []; body = left_write_query l })

abbrev pub seat_insert_text : List ℕ
seat_insert_text = codes "INSERT INTO seat_v2 (matter, person, role) VALUES (?1, ?2, ?3)"

abbrev pub seat_insert_terms : List Term
seat_insert_terms = lit Null ∷ col 0 0 ∷ col 0 1 ∷ col 0 2 ∷ []

abbrev pub seat_insert_command : Layout → Command
seat_insert_command l = Insert (seat_place l) (Values seat_insert_terms 4)

abbrev pub seat_delete_text : List ℕ
seat_delete_text = codes "DELETE FROM seat_v2 WHERE matter = ?1 AND person = ?2"

abbrev pub seat_delete_query : Layout → Query
seat_delete_query l = record {
  from = inner (seat_tree l) end;
  filter = op2 (Compare Eq Binary) (col 1 1) (col 0 0) ∷ op2 (Compare Eq Binary) (col 1 2) (col 0 1) ∷ [];
  group = None;
  project = col 1 0 ∷ [];
  distinct = false;
  collations = [];
  order = [];
  limit = lit (Int (negsuc 0));
  offset = lit (Int (pos 0));
}

abbrev pub seat_delete_command : Layout → Command
seat_delete_command l = Delete (seat_place l) (record { lets = []; body = seat_delete_query l })

abbrev pub journal_insert_text : List ℕ
journal_insert_text = codes "INSERT INTO journal (matter, entry, day, amount) VALUES (?1, ?2, ?3, ?4)"

abbrev pub journal_insert_terms : List Term
journal_insert_terms = lit Null ∷ lit Null ∷ col 0 0 ∷ col 0 1 ∷ col 0 2 ∷ col 0 3 ∷ []

abbrev pub journal_insert_command : Layout → Command
journal_insert_command l = Insert (journal_place l) (Values journal_insert_terms 6)

abbrev pub firm_insert_text : List ℕ
firm_insert_text = codes "INSERT INTO firm_line (day, bank_ref, amount, text) VALUES (?1, ?2, ?3, ?4)"

abbrev pub firm_insert_terms : List Term
firm_insert_terms = lit Null ∷ lit Null ∷ col 0 0 ∷ col 0 1 ∷ col 0 2 ∷ col 0 3 ∷ []

abbrev pub firm_insert_command : Layout → Command
firm_insert_command l = Insert (firm_line_place l) (Values firm_insert_terms 6)

abbrev pub exception_insert_text : List ℕ
exception_insert_text =
    codes "INSERT OR IGNORE INTO exception (day, reference, bank_ref, amount, text) VALUES (?1, ?2, ?3, ?4, ?5)"

abbrev pub exception_insert_terms : List Term
exception_insert_terms = lit Null ∷ col 0 0 ∷ col 0 1 ∷ col 0 2 ∷ col 0 3 ∷ col 0 4 ∷ []

abbrev pub exception_insert_command : Layout → Command
exception_insert_command l = InsertOr (exception_place l) Ignore (Values exception_insert_terms 6) []

abbrev pub exception_delete_text : List ℕ
exception_delete_text =
    codes "DELETE FROM exception WHERE day = ?1 AND reference = ?2 AND bank_ref = ?3 AND amount = ?4 AND text = ?5"

abbrev pub exception_delete_query : Layout → Query
exception_delete_query l = record {
  from = inner (exception_tree l) end;
  filter = op2 (Compare Eq Binary) (col 1 1) (col 0 0) ∷ op2 (Compare Eq Binary) (col 1 2) (col 0 1) ∷
      op2 (Compare Eq Binary) (col 1 3) (col 0 2) ∷ op2 (Compare Eq Binary) (col 1 4) (col 0 3) ∷
      op2 (Compare Eq Binary) (col 1 5) (col 0 4) ∷ [];
  group = None;
  project = col 1 0 ∷ [];
  distinct = false;
  collations = [];
  order = [];
  limit = lit (Int (negsuc 0));
  offset = lit (Int (pos 0));
}

abbrev pub exception_delete_command : Layout → Command
exception_delete_command l = Delete (exception_place l) (record { lets = []; body = exception_delete_query l })

abbrev pub balance_insert_text : List ℕ
balance_insert_text = codes "INSERT INTO balance (kind, day, amount) VALUES (?1, ?2, ?3)"

abbrev pub balance_insert_terms : List Term
balance_insert_terms = lit Null ∷ col 0 0 ∷ col 0 1 ∷ col 0 2 ∷ []

abbrev pub balance_insert_command : Layout → Command
balance_insert_command l = Insert (balance_place l) (Values balance_insert_terms 4)

abbrev pub purge_seats_text : List ℕ
purge_seats_text = codes "DELETE FROM seat_v2 WHERE matter = ?1"

abbrev pub purge_seats_query : Layout → Query
purge_seats_query l = record {
  from = inner (seat_tree l) end;
  filter = op2 (Compare Eq Binary) (col 1 1) (col 0 0) ∷ [];
  group = None;
  project = col 1 0 ∷ [];
  distinct = false;
  collations = [];
  order = [];
  limit = lit (Int (negsuc 0));
  offset = lit (Int (pos 0));
}

abbrev pub purge_seats_command : Layout → Command
purge_seats_command l = Delete (seat_place l) (record { lets = []; body = purge_seats_query l })

abbrev pub purge_entries_text : List ℕ
purge_entries_text = codes "DELETE FROM entry_v2 WHERE matter = ?1"

abbrev pub purge_entries_query : Layout → Query
purge_entries_query l = record {
  from = inner (entry_tree l) end;
  filter = op2 (Compare Eq Binary) (col 1 1) (col 0 0) ∷ [];
  group = None;
  project = col 1 0 ∷ [];
  distinct = false;
  collations = [];
  order = [];
  limit = lit (Int (negsuc 0));
  offset = lit (Int (pos 0));
}

abbrev pub purge_entries_command : Layout → Command
purge_entries_command l = Delete (entry_place l) (record { lets = []; body = purge_entries_query l })

abbrev pub purge_journal_text : List ℕ
purge_journal_text = codes "DELETE FROM journal WHERE matter = ?1"

abbrev pub purge_journal_query : Layout → Query
purge_journal_query l = record {
  from = inner (journal_tree l) end;
  filter = op2 (Compare Eq Binary) (col 1 2) (col 0 0) ∷ [];
  group = None;
  project = col 1 0 ∷ [];
  distinct = false;
  collations = [];
  order = [];
  limit = lit (Int (negsuc 0));
  offset = lit (Int (pos 0));
}

abbrev pub purge_journal_command : Layout → Command
purge_journal_command l = Delete (journal_place l) (record { lets = []; body = purge_journal_query l })

abbrev pub act_scan_text : List ℕ
act_scan_text = codes "SELECT matter, entry, day, deed, caller, text, number FROM trail WHERE matter <> 0 ORDER BY seq"

abbrev pub act_scan_query : Layout → Query
act_scan_query l = record {
  from = inner (act_tree l) end;
  filter = op2 (Compare Ne Binary) (col 1 2) (lit (Int (pos 0))) ∷ [];
  group = None;
  project = col 1 2 ∷ col 1 3 ∷ col 1 4 ∷ col 1 5 ∷ col 1 6 ∷ col 1 7 ∷ col 1 8 ∷ [];
  distinct = false;
  collations = [];
  order = (col 1 0, record { collation = Binary; descending = false }) ∷ [];
  limit = lit (Int (negsuc 0));
  offset = lit (Int (pos 0));
}

abbrev pub act_scan_names : List (List ℕ)
act_scan_names = codes "matter" ∷ codes "entry" ∷ codes "day" ∷ codes "deed" ∷ codes "caller" ∷ codes "text" ∷
    codes "number" ∷ []

abbrev pub dismissal_scan_text : List ℕ
dismissal_scan_text =
    codes "SELECT matter, entry, day, deed, caller, text, number FROM trail WHERE matter = 0 ORDER BY seq"

abbrev pub dismissal_scan_query : Layout → Query
dismissal_scan_query l = record {
  from = inner (act_tree l) end;
  filter = op2 (Compare Eq Binary) (col 1 2) (lit (Int (pos 0))) ∷ [];
  group = None;
  project = col 1 2 ∷ col 1 3 ∷ col 1 4 ∷ col 1 5 ∷ col 1 6 ∷ col 1 7 ∷ col 1 8 ∷ [];
  distinct = false;
  collations = [];
  order = (col 1 0, record { collation = Binary; descending = false }) ∷ [];
  limit = lit (Int (negsuc 0));
  offset = lit (Int (pos 0));
}

abbrev pub dismissal_scan_names : List (List ℕ)
dismissal_scan_names = codes "matter" ∷ codes "entry" ∷ codes "day" ∷ codes "deed" ∷ codes "caller" ∷ codes "text" ∷
    codes "number" ∷ []

abbrev pub acts_read_text : List ℕ
acts_read_text = codes "SELECT matter, entry, day, deed, caller, text, number FROM trail WHERE matter = ?1 ORDER BY seq"

abbrev pub acts_read_query : Layout → Query
acts_read_query l = record {
  from = inner (act_tree l) end;
  filter = op2 (Compare Eq Binary) (col 1 2) (col 0 0) ∷ [];
  group = None;
  project = col 1 2 ∷ col 1 3 ∷ col 1 4 ∷ col 1 5 ∷ col 1 6 ∷ col 1 7 ∷ col 1 8 ∷ [];
  distinct = false;
  collations = [];
  order = (col 1 0, record { collation = Binary; descending = false }) ∷ [];
  limit = lit (Int (negsuc 0));
  offset = lit (Int (pos 0));
}

abbrev pub acts_read_names : List (List ℕ)
acts_read_names = codes "matter" ∷ codes "entry" ∷ codes "day" ∷ codes "deed" ∷ codes "caller" ∷ codes "text" ∷
    codes "number" ∷ []

abbrev pub act_insert_text : List ℕ
act_insert_text =
    codes "INSERT INTO trail (matter, entry, day, deed, caller, text, number) VALUES (?1, ?2, ?3, ?4, ?5, ?6, ?7)"

abbrev pub act_insert_terms : List Term
act_insert_terms = lit Null ∷ lit Null ∷ col 0 0 ∷ col 0 1 ∷ col 0 2 ∷ col 0 3 ∷ col 0 4 ∷ col 0 5 ∷ col 0 6 ∷ []

abbrev pub act_insert_command : Layout → Command
act_insert_command l = Insert (act_place l) (Values act_insert_terms 9)

abbrev pub purge_acts_text : List ℕ
purge_acts_text = codes "DELETE FROM trail WHERE matter = ?1"

abbrev pub purge_acts_query : Layout → Query
purge_acts_query l = record {
  from = inner (act_tree l) end;
  filter = op2 (Compare Eq Binary) (col 1 2) (col 0 0) ∷ [];
  group = None;
  project = col 1 0 ∷ [];
  distinct = false;
  collations = [];
  order = [];
  limit = lit (Int (negsuc 0));
  offset = lit (Int (pos 0));
}

abbrev pub purge_acts_command : Layout → Command
purge_acts_command l = Delete (act_place l) (record { lets = []; body = purge_acts_query l })
