use Rattle.json_bodies.proofs.Names.{map, member_of}
use Rattle.std.proofs.lemmas.Result.{on_ok_weaker}
use Rattle.json_bodies.proofs.ObjectFacts.{object_written}
use Rattle.json_bodies.proofs.bodies.write_object.Goals as goal

pub returns-clause-tokens : goal.returns-clause-tokens
returns-clause-tokens c =
    on_ok_weaker c.end_object.result
    (object_written c.args.out.now.tokens _ _ _ (map member_of c.args.members.now) c.in_ok-begin_object.ensures.ok c.in_ok-write_members.ensures.tokens)
    c.end_object.ensures.ok
