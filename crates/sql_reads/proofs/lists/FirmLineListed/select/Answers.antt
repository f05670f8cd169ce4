use Rattle.sql_reads.proofs.Names.{[], map-map, firm_scan_asks, firm_scan_answer, firm_scan_selects, firm_line_values, firm_line_at}
use Rattle.sql_reads.proofs.Handed.{answered}
use Rattle.sql_reads.proofs.lists.FirmLineListed.select.Goals as goal

pub returns-clause-select : goal.returns-clause-select
returns-clause-select g c = firm_scan_selects

pub returns-clause-list : goal.returns-clause-list
returns-clause-list g c l shows leaves stands =
    answered (firm_scan_asks l) [] _ _ stands.schema _ (firm_scan_answer l _ stands) firm_line_at _ (map-map firm_line_at firm_line_values _)
