use Rattle.std.proofs.lemmas.Result.{on_ok_weaker}
use Rattle.trust_reports.proofs.TextFacts.{three_parts}
use Rattle.trust_reports.proofs.periods.DisbursementsPrinted.push_to.Goals as goal

pub returns-clause-text : goal.returns-clause-text
returns-clause-text c =
    on_ok_weaker _ (three_parts _ _ _ _ _ _ _ c.in_ok-push_period.ensures.text c.in_ok-push_disbursed.ensures.text) c.push_column.ensures.text
