use Rattle.trust_reports.proofs.Names.{rules}
use Rattle.std.specs.Int.{w64, w128}
use Rattle.std.proofs.lemmas.Int.{to_z-of_z}
use Rattle.std.proofs.lemmas.Result.{on_ok_weaker}
use Rattle.trust_reports.proofs.TextFacts.{three_parts}
use Rattle.trust_reports.proofs.own_card.OwnCardPrinted.push_to.Goals as goal

pub returns-clause-text : goal.returns-clause-text
returns-clause-text c =
    let lines = rw c.lines.ensures at c.in_ok-push_lines.ensures.text in
    let narrow = to_z-of_z w64 c.balance.result (search rules) in
    let wide = to_z-of_z w128 c.balance.result (search rules) in
    let total = rw (narrow, wide, c.balance.ensures.value) at c.push_column.ensures.text in
    on_ok_weaker _ (three_parts _ _ _ _ _ _ _ c.in_ok-push_heading.ensures.text lines) total
