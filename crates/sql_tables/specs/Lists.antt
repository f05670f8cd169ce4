-- The lists of records that the tables stand for, and how each SQL statement changes the lists.
use Rattle.std.specs.Prelude.{◌≡◌, ℤ, List, [], ◌∷◌, ◌++◌}
use Rattle.sqlite_trees.specs.Tree.{Trees}
use Rattle.sqlite_keyed.specs.Lists.{delete_where}
use Rattle.sql_schema.specs.declared.layout.Layout.{Layout}
use Rattle.sql_tables.specs.declared.statements.SqlStatement.{SqlStatement}
use Rattle.sql_tables.specs.declared.statements.SqlStatement.TheVariants as statement
use Rattle.sql_tables.specs.Rows.{Head, heads_in, put_head, with_totals, with_closing, with_purge, change_head, Seat, seats_in, add_seat, is_seat, is_seat_of, Entry, entries_in, put_entry, put_left, is_entry_of, Movement, movements_in, is_movement_of, FirmLine, firm_lines_in, Exception, exceptions_in, note_exception, is_exception, Balance, balances_in, add_balance, Act, acts_in, is_act_of}
use Rattle.sql_tables.specs.Given.{head_given, seat_given, entry_given, movement_given, firm_line_given, exception_given, balance_given, act_given}

pub record Lists : Type 0 where
  pub heads : List Head
  pub seats : List Seat
  pub entries : List Entry
  pub movements : List Movement
  pub firm_lines : List FirmLine
  pub exceptions : List Exception
  pub balances : List Balance
  pub acts : List Act

abbrev pub lists_in : Layout → Trees → Lists
lists_in l db = record {
  heads = heads_in l db;
  seats = seats_in l db;
  entries = entries_in l db;
  movements = movements_in l db;
  firm_lines = firm_lines_in l db;
  exceptions = exceptions_in l db;
  balances = balances_in l db;
  acts = acts_in l db;
}

-- how an SQL statement changes the lists; a table with AUTOINCREMENT gives a new row its own number
abbrev pub IsStep : SqlStatement → Lists → Lists → Type 0
IsStep (statement.Head h) a b = b ≡ record a { heads = put_head (head_given h) a.heads }
IsStep (statement.Totals t) a b = b ≡ record a { heads = change_head t.no (with_totals t) a.heads }
IsStep (statement.Closed c) a b = b ≡ record a { heads = change_head c.matter (with_closing c.day) a.heads }
IsStep (statement.Purged c) a b = b ≡ record a { heads = change_head c.matter (with_purge c.day) a.heads }
IsStep (statement.Seat s) a b = b ≡ record a { seats = add_seat (seat_given s) a.seats }
IsStep (statement.SeatGone s) a b = b ≡ record a { seats = delete_where (is_seat s.matter s.person.now) a.seats }
IsStep (statement.Entry e) a b = b ≡ record a { entries = put_entry (entry_given e) a.entries }
IsStep (statement.Left e) a b = b ≡ record a { entries = put_left e.matter e.no e.left_now a.entries }
IsStep (statement.Movement m) a b = (seq : ℤ)
    × (b ≡ record a { movements = a.movements ++ record (movement_given m) { seq = seq } ∷ [] })
IsStep (statement.FirmLine f) a b = (seq : ℤ)
    × (b ≡ record a { firm_lines = a.firm_lines ++ record (firm_line_given f) { seq = seq } ∷ [] })
IsStep (statement.Exception e) a b = b ≡ record a { exceptions = note_exception (exception_given e) a.exceptions }
IsStep (statement.ExceptionGone e) a b =
    b ≡ record a { exceptions = delete_where (is_exception (exception_given e)) a.exceptions }
IsStep (statement.Balance b) a c = c ≡ record a { balances = add_balance (balance_given b) a.balances }
IsStep (statement.SeatsGone m) a b = b ≡ record a { seats = delete_where (is_seat_of m) a.seats }
IsStep (statement.EntriesGone m) a b = b ≡ record a { entries = delete_where (is_entry_of m) a.entries }
IsStep (statement.MovementsGone m) a b = b ≡ record a { movements = delete_where (is_movement_of m) a.movements }
IsStep (statement.Act x) a b =
    (seq : ℤ) × (b ≡ record a { acts = a.acts ++ record (act_given x) { seq = seq } ∷ [] })
IsStep (statement.ActsGone m) a b = b ≡ record a { acts = delete_where (is_act_of m) a.acts }

-- the SQL statements, one after the other
abbrev pub AreSteps : List SqlStatement → Lists → Lists → Type 0
AreSteps [] a b = b ≡ a
AreSteps (s ∷ script) a b = (mid : Lists) × IsStep s a mid × AreSteps script mid b
