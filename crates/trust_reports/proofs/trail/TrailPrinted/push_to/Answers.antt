use Rattle.std.proofs.lemmas.Result.{on_ok_weaker}
use Rattle.trust_reports.proofs.TextFacts.{four_parts}
use Rattle.trust_reports.proofs.trail.TrailPrinted.push_to.Goals as goal

pub returns-clause-text : goal.returns-clause-text
returns-clause-text c =
    on_ok_weaker _ (four_parts _ _ _ _ _ _ _ _ _ c.in_ok-push_heading.ensures.text c.in_ok-push_earlier.ensures.text c.in_ok-push_lines.ensures.text) c.push_lines-2.ensures.text
