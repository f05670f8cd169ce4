-- That each text means what is written of it. Written by tools/book-tables.
use Rattle.sql_tables.proofs.Names.{◌≡◌, true, false, refl, Command, Layout, book_schema, call_of, IsSelect}
use Rattle.sqlite_tied.specs.Compute.{everything}
use Rattle.sqlite_resolve.specs.Compile.{first}
use Rattle.sql_tables.specs.declared.statements.SqlStatement.{SqlStatement}
use Rattle.sql_tables.specs.declared.statements.SqlStatement.TheVariants as statement
use Rattle.sql_tables.proofs.Calls.{IsQuery, IsCommand, looked_at, seen_as, asking, commands, queries, begins}
use Rattle.sql_tables.specs.Texts.{head_read_text, head_read_query, head_read_names, next_head_text, next_head_query, next_head_names, head_scan_text, head_scan_query, head_scan_names, seats_read_text, seats_read_query, seats_read_names, entries_read_text, entries_read_query, entries_read_names, entry_read_text, entry_read_query, entry_read_names, balance_read_text, balance_read_query, balance_read_names, journal_scan_text, journal_scan_query, journal_scan_names, firm_scan_text, firm_scan_query, firm_scan_names, exception_scan_text, exception_scan_query, exception_scan_names, balance_scan_text, balance_scan_query, balance_scan_names, head_write_text, head_write_command, totals_write_text, totals_write_command, closed_write_text, closed_write_command, purged_write_text, purged_write_command, entry_write_text, entry_write_command, left_write_text, left_write_command, seat_insert_text, seat_insert_command, seat_delete_text, seat_delete_command, journal_insert_text, journal_insert_command, firm_insert_text, firm_insert_command, exception_insert_text, exception_insert_command, exception_delete_text, exception_delete_command, balance_insert_text, balance_insert_command, purge_seats_text, purge_seats_command, purge_entries_text, purge_entries_command, purge_journal_text, purge_journal_command, act_scan_text, act_scan_query, act_scan_names, dismissal_scan_text, dismissal_scan_query, dismissal_scan_names, acts_read_text, acts_read_query, acts_read_names, act_insert_text, act_insert_command, purge_acts_text, purge_acts_command}

head_read_seen : looked_at (first head_read_text) ≡ seen_as true (asking head_read_query head_read_names)
unfolding everything
head_read_seen = refl

pub head_read_asks : (l : Layout) → IsQuery (book_schema l) head_read_text (head_read_query l) head_read_names
head_read_asks = queries head_read_text head_read_query head_read_names head_read_seen

pub head_read_selects : IsSelect head_read_text
head_read_selects = begins head_read_text head_read_query head_read_names head_read_seen

next_head_seen : looked_at (first next_head_text) ≡ seen_as true (asking next_head_query next_head_names)
unfolding everything
next_head_seen = refl

pub next_head_asks : (l : Layout) → IsQuery (book_schema l) next_head_text (next_head_query l) next_head_names
next_head_asks = queries next_head_text next_head_query next_head_names next_head_seen

pub next_head_selects : IsSelect next_head_text
next_head_selects = begins next_head_text next_head_query next_head_names next_head_seen

head_scan_seen : looked_at (first head_scan_text) ≡ seen_as true (asking head_scan_query head_scan_names)
unfolding everything
head_scan_seen = refl

pub head_scan_asks : (l : Layout) → IsQuery (book_schema l) head_scan_text (head_scan_query l) head_scan_names
head_scan_asks = queries head_scan_text head_scan_query head_scan_names head_scan_seen

pub head_scan_selects : IsSelect head_scan_text
head_scan_selects = begins head_scan_text head_scan_query head_scan_names head_scan_seen

seats_read_seen : looked_at (first seats_read_text) ≡ seen_as true (asking seats_read_query seats_read_names)
unfolding everything
seats_read_seen = refl

pub seats_read_asks : (l : Layout) → IsQuery (book_schema l) seats_read_text (seats_read_query l) seats_read_names
seats_read_asks = queries seats_read_text seats_read_query seats_read_names seats_read_seen

pub seats_read_selects : IsSelect seats_read_text
seats_read_selects = begins seats_read_text seats_read_query seats_read_names seats_read_seen

entries_read_seen : looked_at (first entries_read_text) ≡ seen_as true (asking entries_read_query entries_read_names)
unfolding everything
entries_read_seen = refl

pub entries_read_asks : (l : Layout) → IsQuery (book_schema l) entries_read_text (entries_read_query l) entries_read_names
entries_read_asks = queries entries_read_text entries_read_query entries_read_names entries_read_seen

pub entries_read_selects : IsSelect entries_read_text
entries_read_selects = begins entries_read_text entries_read_query entries_read_names entries_read_seen

entry_read_seen : looked_at (first entry_read_text) ≡ seen_as true (asking entry_read_query entry_read_names)
unfolding everything
entry_read_seen = refl

pub entry_read_asks : (l : Layout) → IsQuery (book_schema l) entry_read_text (entry_read_query l) entry_read_names
entry_read_asks = queries entry_read_text entry_read_query entry_read_names entry_read_seen

pub entry_read_selects : IsSelect entry_read_text
entry_read_selects = begins entry_read_text entry_read_query entry_read_names entry_read_seen

balance_read_seen : looked_at (first balance_read_text) ≡ seen_as true (asking balance_read_query balance_read_names)
unfolding everything
balance_read_seen = refl

pub balance_read_asks : (l : Layout) → IsQuery (book_schema l) balance_read_text (balance_read_query l) balance_read_names
balance_read_asks = queries balance_read_text balance_read_query balance_read_names balance_read_seen

pub balance_read_selects : IsSelect balance_read_text
balance_read_selects = begins balance_read_text balance_read_query balance_read_names balance_read_seen

journal_scan_seen : looked_at (first journal_scan_text) ≡ seen_as true (asking journal_scan_query journal_scan_names)
unfolding everything
journal_scan_seen = refl

pub journal_scan_asks : (l : Layout) → IsQuery (book_schema l) journal_scan_text (journal_scan_query l) journal_scan_names
journal_scan_asks = queries journal_scan_text journal_scan_query journal_scan_names journal_scan_seen

pub journal_scan_selects : IsSelect journal_scan_text
journal_scan_selects = begins journal_scan_text journal_scan_query journal_scan_names journal_scan_seen

firm_scan_seen : looked_at (first firm_scan_text) ≡ seen_as true (asking firm_scan_query firm_scan_names)
unfolding everything
firm_scan_seen = refl

pub firm_scan_asks : (l : Layout) → IsQuery (book_schema l) firm_scan_text (firm_scan_query l) firm_scan_names
firm_scan_asks = queries firm_scan_text firm_scan_query firm_scan_names firm_scan_seen

pub firm_scan_selects : IsSelect firm_scan_text
firm_scan_selects = begins firm_scan_text firm_scan_query firm_scan_names firm_scan_seen

exception_scan_seen : looked_at (first exception_scan_text) ≡ seen_as true (asking exception_scan_query exception_scan_names)
unfolding everything
exception_scan_seen = refl

pub exception_scan_asks : (l : Layout) → IsQuery (book_schema l) exception_scan_text (exception_scan_query l) exception_scan_names
exception_scan_asks = queries exception_scan_text exception_scan_query exception_scan_names exception_scan_seen

pub exception_scan_selects : IsSelect exception_scan_text
exception_scan_selects = begins exception_scan_text exception_scan_query exception_scan_names exception_scan_seen

balance_scan_seen : looked_at (first balance_scan_text) ≡ seen_as true (asking balance_scan_query balance_scan_names)
unfolding everything
balance_scan_seen = refl

pub balance_scan_asks : (l : Layout) → IsQuery (book_schema l) balance_scan_text (balance_scan_query l) balance_scan_names
balance_scan_asks = queries balance_scan_text balance_scan_query balance_scan_names balance_scan_seen

pub balance_scan_selects : IsSelect balance_scan_text
balance_scan_selects = begins balance_scan_text balance_scan_query balance_scan_names balance_scan_seen

head_write_seen : looked_at (first head_write_text) ≡ seen_as false head_write_command
unfolding everything
head_write_seen = refl

totals_write_seen : looked_at (first totals_write_text) ≡ seen_as false totals_write_command
unfolding everything
totals_write_seen = refl

closed_write_seen : looked_at (first closed_write_text) ≡ seen_as false closed_write_command
unfolding everything
closed_write_seen = refl

purged_write_seen : looked_at (first purged_write_text) ≡ seen_as false purged_write_command
unfolding everything
purged_write_seen = refl

entry_write_seen : looked_at (first entry_write_text) ≡ seen_as false entry_write_command
unfolding everything
entry_write_seen = refl

left_write_seen : looked_at (first left_write_text) ≡ seen_as false left_write_command
unfolding everything
left_write_seen = refl

seat_insert_seen : looked_at (first seat_insert_text) ≡ seen_as false seat_insert_command
unfolding everything
seat_insert_seen = refl

seat_delete_seen : looked_at (first seat_delete_text) ≡ seen_as false seat_delete_command
unfolding everything
seat_delete_seen = refl

journal_insert_seen : looked_at (first journal_insert_text) ≡ seen_as false journal_insert_command
unfolding everything
journal_insert_seen = refl

firm_insert_seen : looked_at (first firm_insert_text) ≡ seen_as false firm_insert_command
unfolding everything
firm_insert_seen = refl

exception_insert_seen : looked_at (first exception_insert_text) ≡ seen_as false exception_insert_command
unfolding everything
exception_insert_seen = refl

exception_delete_seen : looked_at (first exception_delete_text) ≡ seen_as false exception_delete_command
unfolding everything
exception_delete_seen = refl

balance_insert_seen : looked_at (first balance_insert_text) ≡ seen_as false balance_insert_command
unfolding everything
balance_insert_seen = refl

purge_seats_seen : looked_at (first purge_seats_text) ≡ seen_as false purge_seats_command
unfolding everything
purge_seats_seen = refl

purge_entries_seen : looked_at (first purge_entries_text) ≡ seen_as false purge_entries_command
unfolding everything
purge_entries_seen = refl

purge_journal_seen : looked_at (first purge_journal_text) ≡ seen_as false purge_journal_command
unfolding everything
purge_journal_seen = refl

act_scan_seen : looked_at (first act_scan_text) ≡ seen_as true (asking act_scan_query act_scan_names)
unfolding everything
act_scan_seen = refl

pub act_scan_asks : (l : Layout) → IsQuery (book_schema l) act_scan_text (act_scan_query l) act_scan_names
act_scan_asks = queries act_scan_text act_scan_query act_scan_names act_scan_seen

pub act_scan_selects : IsSelect act_scan_text
act_scan_selects = begins act_scan_text act_scan_query act_scan_names act_scan_seen

dismissal_scan_seen : looked_at (first dismissal_scan_text) ≡ seen_as true (asking dismissal_scan_query dismissal_scan_names)
unfolding everything
dismissal_scan_seen = refl

pub dismissal_scan_asks : (l : Layout) → IsQuery (book_schema l) dismissal_scan_text (dismissal_scan_query l) dismissal_scan_names
dismissal_scan_asks = queries dismissal_scan_text dismissal_scan_query dismissal_scan_names dismissal_scan_seen

pub dismissal_scan_selects : IsSelect dismissal_scan_text
dismissal_scan_selects = begins dismissal_scan_text dismissal_scan_query dismissal_scan_names dismissal_scan_seen

acts_read_seen : looked_at (first acts_read_text) ≡ seen_as true (asking acts_read_query acts_read_names)
unfolding everything
acts_read_seen = refl

pub acts_read_asks : (l : Layout) → IsQuery (book_schema l) acts_read_text (acts_read_query l) acts_read_names
acts_read_asks = queries acts_read_text acts_read_query acts_read_names acts_read_seen

pub acts_read_selects : IsSelect acts_read_text
acts_read_selects = begins acts_read_text acts_read_query acts_read_names acts_read_seen

act_insert_seen : looked_at (first act_insert_text) ≡ seen_as false act_insert_command
unfolding everything
act_insert_seen = refl

purge_acts_seen : looked_at (first purge_acts_text) ≡ seen_as false purge_acts_command
unfolding everything
purge_acts_seen = refl

-- what a statement that writes means
abbrev pub meaning : Layout → SqlStatement → Command
meaning l (statement.Head _) = head_write_command l
meaning l (statement.Totals _) = totals_write_command l
meaning l (statement.Closed _) = closed_write_command l
meaning l (statement.Purged _) = purged_write_command l
meaning l (statement.Seat _) = seat_insert_command l
meaning l (statement.SeatGone _) = seat_delete_command l
meaning l (statement.Entry _) = entry_write_command l
meaning l (statement.Left _) = left_write_command l
meaning l (statement.Movement _) = journal_insert_command l
meaning l (statement.FirmLine _) = firm_insert_command l
meaning l (statement.Exception _) = exception_insert_command l
meaning l (statement.ExceptionGone _) = exception_delete_command l
meaning l (statement.Balance _) = balance_insert_command l
meaning l (statement.SeatsGone _) = purge_seats_command l
meaning l (statement.EntriesGone _) = purge_entries_command l
meaning l (statement.MovementsGone _) = purge_journal_command l
meaning l (statement.Act _) = act_insert_command l
meaning l (statement.ActsGone _) = purge_acts_command l

pub means : (l : Layout) (s : SqlStatement) → IsCommand (book_schema l) (call_of s).text (meaning l s)
means l (statement.Head _) = commands head_write_text false head_write_command head_write_seen l
means l (statement.Totals _) = commands totals_write_text false totals_write_command totals_write_seen l
means l (statement.Closed _) = commands closed_write_text false closed_write_command closed_write_seen l
means l (statement.Purged _) = commands purged_write_text false purged_write_command purged_write_seen l
means l (statement.Seat _) = commands seat_insert_text false seat_insert_command seat_insert_seen l
means l (statement.SeatGone _) = commands seat_delete_text false seat_delete_command seat_delete_seen l
means l (statement.Entry _) = commands entry_write_text false entry_write_command entry_write_seen l
means l (statement.Left _) = commands left_write_text false left_write_command left_write_seen l
means l (statement.Movement _) = commands journal_insert_text false journal_insert_command journal_insert_seen l
means l (statement.FirmLine _) = commands firm_insert_text false firm_insert_command firm_insert_seen l
means l (statement.Exception _) = commands exception_insert_text false exception_insert_command exception_insert_seen l
means l (statement.ExceptionGone _) = commands exception_delete_text false exception_delete_command exception_delete_seen l
means l (statement.Balance _) = commands balance_insert_text false balance_insert_command balance_insert_seen l
means l (statement.SeatsGone _) = commands purge_seats_text false purge_seats_command purge_seats_seen l
means l (statement.EntriesGone _) = commands purge_entries_text false purge_entries_command purge_entries_seen l
means l (statement.MovementsGone _) = commands purge_journal_text false purge_journal_command purge_journal_seen l
means l (statement.Act _) = commands act_insert_text false act_insert_command act_insert_seen l
means l (statement.ActsGone _) = commands purge_acts_text false purge_acts_command purge_acts_seen l
