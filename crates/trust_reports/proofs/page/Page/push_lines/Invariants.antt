use Rattle.trust_reports.proofs.Names.{◌≡◌, ◌++◌, take, flat_map}
use Rattle.trust_reports.proofs.page.Page.push_lines.Given as goal

-- the text so far
abbrev pub invariant-loop-line : goal.invariant-loop-line
invariant-loop-line g l = record {
  before : l.self.before ≡ l.fn.self.before;
  text : l.self.text ≡ l.fn.self.text ++ flat_map g.T.Printed.printed (take l.line-index l.lines);
}
