use Rattle.json_bodies.proofs.Names.{◌≡◌, ◌++◌, drop, map, array_of, value_tokens}
use Rattle.json_bodies.specs.Acts.{act_object}
use Rattle.json_bodies.proofs.ObjectFacts.{acts_rest}
use Rattle.json_bodies.proofs.acts.write_acts.Given as goal

abbrev pub invariant-loop-act : goal.invariant-loop-act
invariant-loop-act l = record {
  before : l.out.before ≡ l.fn.out.before;
  tokens : l.out.tokens ++ acts_rest (drop l.act-index l.acts) ≡ l.fn.out.tokens ++ value_tokens (array_of (map act_object l.acts));
}
