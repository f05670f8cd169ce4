use Rattle.sql_reads.proofs.Names.{[], map-map, balance_scan_asks, balance_scan_answer, balance_scan_selects, balance_values, balance_at}
use Rattle.sql_reads.proofs.Handed.{answered}
use Rattle.sql_reads.proofs.lists.BalanceRowListed.select.Goals as goal

pub returns-clause-select : goal.returns-clause-select
returns-clause-select g c = balance_scan_selects

pub returns-clause-list : goal.returns-clause-list
returns-clause-list g c l shows leaves stands =
    answered (balance_scan_asks l) [] _ _ stands.schema _ (balance_scan_answer l _ stands) balance_at _ (map-map balance_at balance_values _)
