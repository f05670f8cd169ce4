use Rattle.sql_reads.proofs.Names.{[], map-map, dismissal_scan_asks, dismissal_scan_answer, dismissal_scan_selects, act_values, dismissal_at}
use Rattle.sql_reads.proofs.Handed.{answered}
use Rattle.sql_reads.proofs.lists.DismissalListed.select.Goals as goal

pub returns-clause-select : goal.returns-clause-select
returns-clause-select g c = dismissal_scan_selects

pub returns-clause-list : goal.returns-clause-list
returns-clause-list g c l shows leaves stands =
    answered (dismissal_scan_asks l) [] _ _ stands.schema _ (dismissal_scan_answer l _ stands) dismissal_at _ (map-map dismissal_at act_values _)
