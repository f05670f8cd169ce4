use Rattle.sql_reads.proofs.Names.{[], map-map, act_scan_asks, act_scan_answer, act_scan_selects, act_values, act_at}
use Rattle.sql_reads.proofs.Handed.{answered}
use Rattle.sql_reads.proofs.lists.MatterActListed.select.Goals as goal

pub returns-clause-select : goal.returns-clause-select
returns-clause-select g c = act_scan_selects

pub returns-clause-list : goal.returns-clause-list
returns-clause-list g c l shows leaves stands =
    answered (act_scan_asks l) [] _ _ stands.schema _ (act_scan_answer l _ stands) act_at _ (map-map act_at act_values _)
