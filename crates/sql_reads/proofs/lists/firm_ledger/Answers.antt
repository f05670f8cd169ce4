use Rattle.sql_reads.proofs.Names.{◌∙◌, IfOk-weaker, answers, firm_scan_asks, firm_scan_answer, firm_scan_selects}
use Rattle.sql_reads.proofs.lists.firm_ledger.Goals as goal

pub rows_of-requires-clause-select : goal.rows_of-requires-clause-select
rows_of-requires-clause-select g c = firm_scan_selects

pub returns-clause-found : goal.returns-clause-found
returns-clause-found g c l clean stands =
    IfOk-weaker c.ledger_of.result _ _ (λ ledger is. is _ (c.deref.ensures.value ∙ firm_scan_answer l _ stands.tables _
    (answers (firm_scan_asks l) _ _ _ stands.tables.schema _ (c.in_ok-rows.ensures.shown clean)))) c.ledger_of.ensures
