use Rattle.std.specs.Prelude.{◌≡◌, ◌++◌, drop, map}
use Rattle.json_bodies.specs.Json.{array_of, value_tokens}
use Rattle.json_bodies.proofs.Tokens.{items_rest}
use Rattle.json_bodies.proofs.to_json.RefSliceToJson.write.Given as goal

abbrev pub invariant-loop-value : goal.invariant-loop-value
invariant-loop-value g l = record {
  before : l.out.before ≡ l.fn.out.before;
  tokens : l.out.tokens ++ items_rest (map g.T.ToJson.told (drop l.value-index l.self.now)) ≡ l.fn.out.tokens ++ value_tokens (array_of (map g.T.ToJson.told l.self.now));
}
