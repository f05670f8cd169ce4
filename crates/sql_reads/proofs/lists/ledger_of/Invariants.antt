use Rattle.sql_reads.proofs.Names.{◌≡◌, List, map, take, FirmLine, firm_line_values, firm_line_from}
use Rattle.sql_reads.proofs.lists.ledger_of.Given as goal

abbrev pub invariant-each : goal.invariant-each
invariant-each l = (xs : List FirmLine) → l.rows ≡ map firm_line_values xs → l.ledger ≡ map firm_line_from (take l.row-index xs)
