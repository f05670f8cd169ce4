use Rattle.sql_reads.proofs.Names.{◌≡◌, List, map, take, seat_shown, seat_from}
use Rattle.sql_tables.specs.Rows.{Seat}
use Rattle.sql_reads.proofs.matter.read_seats.Given as goal

abbrev pub invariant-each : goal.invariant-each
invariant-each l = (xs : List Seat) → l.rows ≡ map seat_shown xs → l.seats.items ≡ map seat_from (take l.row-index xs)
