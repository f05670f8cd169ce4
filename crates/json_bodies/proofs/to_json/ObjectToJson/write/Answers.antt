use Rattle.std.proofs.lemmas.Result.{on_ok_weaker}
use Rattle.json_bodies.proofs.ObjectFacts.{object_written}
use Rattle.json_bodies.proofs.to_json.ObjectToJson.write.Goals as goal

pub returns-clause-tokens : goal.returns-clause-tokens
returns-clause-tokens g c =
    on_ok_weaker c.end_object.result
    (object_written c.args.out.now.tokens _ _ _ (g.M.Members.members c.args.self.now.members) c.in_ok-begin_object.ensures.ok c.in_ok-write_members.ensures.tokens)
    c.end_object.ensures.ok
