use Rattle.trust_reports.proofs.Names.{◌≡◌, ◌++◌, take, flat_map, entry_line}
use Rattle.trust_reports.proofs.reconciliation.push_entries.Given as goal

-- the text so far
abbrev pub invariant-loop-line : goal.invariant-loop-line
invariant-loop-line l = record {
  before : l.page.before ≡ l.fn.page.before;
  text : l.page.text ≡ l.fn.page.text ++ flat_map (entry_line l.word) (take l.line-index l.lines);
}
