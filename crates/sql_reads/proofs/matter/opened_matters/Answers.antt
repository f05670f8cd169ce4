use Rattle.sql_reads.proofs.Names.{◌∙◌, IfOk-weaker, answers, head_scan_asks, head_scan_answer, head_scan_selects, lists_in, state}
use Rattle.sql_reads.proofs.AllMatters.{opened_read}
use Rattle.sql_reads.proofs.matter.opened_matters.Goals as goal

pub rows_of-requires-clause-select : goal.rows_of-requires-clause-select
rows_of-requires-clause-select g c = head_scan_selects

pub returns-clause-read : goal.returns-clause-read
returns-clause-read g c l clean stands =
    IfOk-weaker c.numbers_in.result _ _ (λ numbers are. are _ (c.deref.ensures.value ∙ head_scan_answer l _ stands _
    (answers (head_scan_asks l) _ _ _ stands.schema _ (c.in_ok-rows.ensures.shown clean)))) c.numbers_in.ensures

pub returns-clause-found : goal.returns-clause-found
returns-clause-found g c l clean stands =
    IfOk-weaker c.numbers_in.result _ _ (λ numbers are. opened_read (lists_in l (state g.S.Store c.args.conn.now).now.trees) _ are)
    (returns-clause-read g c l clean stands)
