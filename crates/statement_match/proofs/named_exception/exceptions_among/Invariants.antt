use Rattle.statement_match.proofs.Names.{◌≡◌, ◌≤◌, length, take, map, filter, elements, is_named_like, named_exception}
use Rattle.statement_match.proofs.named_exception.exceptions_among.Given as goal

abbrev pub invariant-loop-exception : goal.invariant-loop-exception
invariant-loop-exception l = record {
  first : l.listed.items
      ≡ take 5
      (map (named_exception l.today l.grounds.known)
      (filter (is_named_like l.grounds.line) (take l.exception-index (elements l.found))));
  few : length l.listed.items ≤ 5;
}
