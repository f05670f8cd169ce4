use Rattle.trust_reports.proofs.Names.{◌≡◌, ◌++◌, take, flat_map, listed_exception}
use Rattle.trust_reports.proofs.reconciliation.push_exceptions.Given as goal

-- the text so far
abbrev pub invariant-loop-line : goal.invariant-loop-line
invariant-loop-line l = record {
  before : l.page.before ≡ l.fn.page.before;
  text : l.page.text ≡ l.fn.page.text ++ flat_map listed_exception (take l.line-index l.lines);
}
