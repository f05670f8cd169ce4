use Rattle.sql_reads.proofs.Names.{[], map-map, journal_scan_asks, journal_scan_answer, journal_scan_selects, movement_values, movement_at}
use Rattle.sql_reads.proofs.Handed.{answered}
use Rattle.sql_reads.proofs.lists.MovementListed.select.Goals as goal

pub returns-clause-select : goal.returns-clause-select
returns-clause-select g c = journal_scan_selects

pub returns-clause-list : goal.returns-clause-list
returns-clause-list g c l shows leaves stands =
    answered (journal_scan_asks l) [] _ _ stands.schema _ (journal_scan_answer l _ stands) movement_at _ (map-map movement_at movement_values _)
