use Rattle.trust_reports.proofs.Names.{◌≡◌, ◌++◌, replicate}
use Rattle.trust_reports.proofs.page.Page.push_spaces.Given as goal

abbrev pub invariant-loop-space : goal.invariant-loop-space
invariant-loop-space l = record {
  before : l.self.before ≡ l.fn.self.before;
  text : l.self.text ≡ l.fn.self.text ++ replicate l._space 32;
}
