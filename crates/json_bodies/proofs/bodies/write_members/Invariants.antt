use Rattle.json_bodies.proofs.Names.{◌≡◌, ◌++◌, drop, map, member_of}
use Rattle.json_bodies.specs.Json.{members_between}
use Rattle.json_bodies.proofs.bodies.write_members.Given as goal

abbrev pub invariant-loop-member : goal.invariant-loop-member
invariant-loop-member l = record {
  before : l.out.before ≡ l.fn.out.before;
  tokens : l.out.tokens ++ members_between (map member_of (drop l.member-index l.members)) ≡ l.fn.out.tokens ++ members_between (map member_of l.members);
}
