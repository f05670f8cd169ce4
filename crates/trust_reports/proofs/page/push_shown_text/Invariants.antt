use Rattle.trust_reports.proofs.Names.{◌≡◌, ◌++◌, map, encode_utf8_all, shown}
use Rattle.trust_reports.proofs.page.push_shown_text.Given as goal

abbrev pub invariant-loop-character : goal.invariant-loop-character
invariant-loop-character l = record {
  before : l.page.before ≡ l.fn.page.before;
  text : l.page.text ≡ l.fn.page.text ++ encode_utf8_all (map shown l.yielded);
}
