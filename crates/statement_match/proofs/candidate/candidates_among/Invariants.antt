use Rattle.statement_match.proofs.Names.{◌≡◌, ◌≤◌, length, take, map, filter, elements, stands, candidate_of}
use Rattle.statement_match.proofs.candidate.candidates_among.Given as goal

abbrev pub invariant-loop-entry : goal.invariant-loop-entry
invariant-loop-entry l = record {
  first : l.listed.items
      ≡ take 5
      (map candidate_of (filter (stands l.relation l.today l.line) (take l.entry-index (elements l.found))));
  few : length l.listed.items ≤ 5;
}
