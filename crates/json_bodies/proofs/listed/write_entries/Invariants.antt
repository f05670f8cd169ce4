use Rattle.json_bodies.proofs.Names.{◌≡◌, ◌++◌, drop, map, array_of, value_tokens, kept_object}
use Rattle.json_bodies.proofs.ObjectFacts.{entries_rest}
use Rattle.json_bodies.proofs.listed.write_entries.Given as goal

abbrev pub invariant-loop-one : goal.invariant-loop-one
invariant-loop-one l = record {
  before : l.out.before ≡ l.fn.out.before;
  tokens : l.out.tokens ++ entries_rest l.no (drop l.one-index l.kept) ≡ l.fn.out.tokens ++ value_tokens (array_of (map (kept_object l.no) l.kept));
}
