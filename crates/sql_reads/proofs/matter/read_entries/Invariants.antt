use Rattle.sql_reads.proofs.Names.{◌≡◌, List, map, take, Entry, numbered_shown, kept_from}
use Rattle.sql_reads.proofs.matter.read_entries.Given as goal

abbrev pub invariant-each : goal.invariant-each
invariant-each l = (xs : List Entry) → l.rows ≡ map numbered_shown xs → l.kept.items ≡ map kept_from (take l.row-index xs)
