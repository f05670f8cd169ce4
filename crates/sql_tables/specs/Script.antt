-- SQL statements that ran in turn in one transaction, and how they change tables that stand.
use Rattle.std.specs.Prelude.{◌≡◌, ◌≢◌, ℕ, List, [], ◌∷◌, map, Ok}
use Rattle.sqlite_value.specs.declared.value.Value.TheVariants.{Int, Text}
use Rattle.sqlite_value.specs.Order.{Row}
use Rattle.sqlite_trees.specs.Tree.{Trees}
use Rattle.sqlite_trees.specs.declared.store.Store.{Ghosts}
use Rattle.sqlite_keyed.specs.Lists.{delete_where}
use Rattle.sqlite.specs.Effect.{Database, IsDatabase}
use Rattle.sqlite.specs.State.{State, Executes}
use Rattle.sqlite.specs.Held.{Held, state}
use Rattle.sql_schema.specs.declared.layout.Layout.{Layout}
use Rattle.sql_schema.specs.Schema.{matter_tree, seat_tree, entry_tree, journal_tree, firm_line_tree, exception_tree, balance_tree, act_tree}
use Rattle.sql_tables.specs.declared.statements.SqlStatement.{SqlStatement}
use Rattle.sql_tables.specs.declared.statements.SqlStatement.TheVariants as statement
use Rattle.sql_tables.specs.Rows.{head_row, head_values, heads_in, put_head, totals_values, with_totals, with_closing, with_purge, change_head, seat_row, seat_values, seats_in, add_seat, is_seat, is_seat_of, entry_row, entry_values, entries_in, put_entry, put_left, is_entry_of, Movement, movement_row, movement_values, movements_in, is_movement_of, FirmLine, firm_line_row, firm_line_values, firm_lines_in, exception_row, exception_values, exceptions_in, note_exception, is_exception, balance_row, balance_values, balances_in, add_balance, Act, act_row, act_values, acts_in, is_act_of}
use Rattle.sql_tables.specs.Standing.{Stands, Changed, Counted}
use Rattle.sql_tables.specs.Given.{head_given, seat_given, entry_given, movement_given, firm_line_given, exception_given, balance_given, act_given}
use Rattle.sql_tables.specs.Lists.{lists_in, AreSteps}
use Rattle.sql_tables.specs.Texts.{head_write_text, totals_write_text, closed_write_text, purged_write_text, seat_insert_text, seat_delete_text, entry_write_text, left_write_text, journal_insert_text, firm_insert_text, exception_insert_text, exception_delete_text, balance_insert_text, purge_seats_text, purge_entries_text, purge_journal_text, act_insert_text, purge_acts_text}

-- an SQL text and its parameters
pub record Call : Type 0 where
  pub text : List ℕ
  pub params : Row

abbrev pub call_of : SqlStatement → Call
call_of (statement.Head h) = record { text = head_write_text; params = head_values (head_given h) }
call_of (statement.Totals t) = record { text = totals_write_text; params = totals_values t }
call_of (statement.Closed c) = record { text = closed_write_text; params = Int c.matter ∷ Int c.day ∷ [] }
call_of (statement.Purged c) = record { text = purged_write_text; params = Int c.matter ∷ Int c.day ∷ [] }
call_of (statement.Seat s) = record { text = seat_insert_text; params = seat_values (seat_given s) }
call_of (statement.SeatGone s) = record { text = seat_delete_text; params = Int s.matter ∷ Text s.person.now ∷ [] }
call_of (statement.Entry e) = record { text = entry_write_text; params = entry_values (entry_given e) }
call_of (statement.Left e) = record { text = left_write_text; params = Int e.matter ∷ Int e.no ∷ Int e.left_now ∷ [] }
call_of (statement.Movement m) = record { text = journal_insert_text; params = movement_values (movement_given m) }
call_of (statement.FirmLine f) = record { text = firm_insert_text; params = firm_line_values (firm_line_given f) }
call_of (statement.Exception e) = record { text = exception_insert_text; params = exception_values (exception_given e) }
call_of (statement.ExceptionGone e) = record {
  text = exception_delete_text;
  params = exception_values (exception_given e);
}
call_of (statement.Balance b) = record { text = balance_insert_text; params = balance_values (balance_given b) }
call_of (statement.SeatsGone m) = record { text = purge_seats_text; params = Int m ∷ [] }
call_of (statement.EntriesGone m) = record { text = purge_entries_text; params = Int m ∷ [] }
call_of (statement.MovementsGone m) = record { text = purge_journal_text; params = Int m ∷ [] }
call_of (statement.Act a) = record { text = act_insert_text; params = act_values (act_given a) }
call_of (statement.ActsGone m) = record { text = purge_acts_text; params = Int m ∷ [] }

abbrev pub calls_of : List SqlStatement → List Call
calls_of = map call_of

-- everything is committed, and a crash now leaves exactly that
abbrev pub IsSettled : State → Type 0
IsSettled s = (s.committed ≡ s.now) × ((db : Trees) → s.may_leave db → db ≡ s.now.trees)

-- the calls ran in turn, and each succeeded
abbrev pub RanInside : {S : Type 0} → Ghosts S → List Call → Held S → Held S → Type 0
RanInside g [] old new = new ≡ old
RanInside {S} g (call ∷ calls) old new = (mid : Held S) × (count : ℕ)
    × Executes call.text call.params (state g old) (state g mid) (Ok count) × RanInside g calls mid new

-- how an SQL statement changes tables that stand in a layout
abbrev pub Does : Layout → SqlStatement → Database → Database → Type 0
Does l (statement.Head h) db = Changed l (matter_tree l) head_row (put_head (head_given h) (heads_in l db.trees)) db
Does l (statement.Totals t) db = Changed l (matter_tree l) head_row
    (change_head t.no (with_totals t) (heads_in l db.trees)) db
Does l (statement.Closed c) db = Changed l (matter_tree l) head_row
    (change_head c.matter (with_closing c.day) (heads_in l db.trees)) db
Does l (statement.Purged c) db = Changed l (matter_tree l) head_row
    (change_head c.matter (with_purge c.day) (heads_in l db.trees)) db
Does l (statement.Seat s) db = Changed l (seat_tree l) seat_row (add_seat (seat_given s) (seats_in l db.trees)) db
Does l (statement.SeatGone s) db = Changed l (seat_tree l) seat_row
    (delete_where (is_seat s.matter s.person.now) (seats_in l db.trees)) db
Does l (statement.Entry e) db = Changed l (entry_tree l) entry_row
    (put_entry (entry_given e) (entries_in l db.trees)) db
Does l (statement.Left e) db = Changed l (entry_tree l) entry_row
    (put_left e.matter e.no e.left_now (entries_in l db.trees)) db
Does l (statement.Movement m) db = Counted l (journal_tree l) movement_row (λ (x : Movement). x.seq)
    (movements_in l db.trees) (λ seq. record (movement_given m) { seq = seq }) db
Does l (statement.FirmLine f) db = Counted l (firm_line_tree l) firm_line_row (λ (x : FirmLine). x.seq)
    (firm_lines_in l db.trees) (λ seq. record (firm_line_given f) { seq = seq }) db
Does l (statement.Exception e) db = Changed l (exception_tree l) exception_row
    (note_exception (exception_given e) (exceptions_in l db.trees)) db
Does l (statement.ExceptionGone e) db = Changed l (exception_tree l) exception_row
    (delete_where (is_exception (exception_given e)) (exceptions_in l db.trees)) db
Does l (statement.Balance b) db = Changed l (balance_tree l) balance_row
    (add_balance (balance_given b) (balances_in l db.trees)) db
Does l (statement.SeatsGone m) db = Changed l (seat_tree l) seat_row
    (delete_where (is_seat_of m) (seats_in l db.trees)) db
Does l (statement.EntriesGone m) db = Changed l (entry_tree l) entry_row
    (delete_where (is_entry_of m) (entries_in l db.trees)) db
Does l (statement.MovementsGone m) db = Changed l (journal_tree l) movement_row
    (delete_where (is_movement_of m) (movements_in l db.trees)) db
Does l (statement.Act a) db = Counted l (act_tree l) act_row (λ (x : Act). x.seq)
    (acts_in l db.trees) (λ seq. record (act_given a) { seq = seq }) db
Does l (statement.ActsGone m) db = Changed l (act_tree l) act_row
    (delete_where (is_act_of m) (acts_in l db.trees)) db

-- the SQL statements, one after the other
abbrev pub DoesAll : Layout → List SqlStatement → Database → Database → Type 0
DoesAll l [] db next = next ≡ db
DoesAll l (s ∷ script) db next = (mid : Database) × Does l s db mid × DoesAll l script mid next

-- the tables after the SQL statements: they stand, and what they stand for has changed step by step; if anything was
-- written, the database lists what it holds
pub record Written (l : Layout) (script : List SqlStatement) (db next : Database) : Type 0 where
  pub does : DoesAll l script db next
  pub steps : AreSteps script (lists_in l db.trees) (lists_in l next.trees)
  pub stands : Stands l next
  pub listed : script ≢ [] → IsDatabase next
