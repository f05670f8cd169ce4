use Rattle.trust_reports.proofs.Names.{◌≡◌, ◌++◌, take, flat_map}
use Rattle.trust_reports.specs.TextsOfActs.{approval_line}
use Rattle.trust_reports.proofs.approvals.push_approvals.Given as goal

-- the text so far
abbrev pub invariant-loop-line : goal.invariant-loop-line
invariant-loop-line l = record {
  before : l.page.before ≡ l.fn.page.before;
  text : l.page.text ≡ l.fn.page.text ++ flat_map (approval_line l.unread) (take l.line-index l.lines);
}
