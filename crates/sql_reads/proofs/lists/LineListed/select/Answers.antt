use Rattle.sql_reads.proofs.Names.{[], map-map, exception_scan_asks, exception_scan_answer, exception_scan_selects, exception_values, exception_at}
use Rattle.sql_reads.proofs.Handed.{answered}
use Rattle.sql_reads.proofs.lists.LineListed.select.Goals as goal

pub returns-clause-select : goal.returns-clause-select
returns-clause-select g c = exception_scan_selects

pub returns-clause-list : goal.returns-clause-list
returns-clause-list g c l shows leaves stands =
    answered (exception_scan_asks l) [] _ _ stands.schema _ (exception_scan_answer l _ stands) exception_at _ (map-map exception_at exception_values _)
