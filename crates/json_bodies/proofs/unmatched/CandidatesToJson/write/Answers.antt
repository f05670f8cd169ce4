use Rattle.std.proofs.Common.{sym}
use Rattle.json_bodies.proofs.unmatched.CandidatesToJson.write.Goals as goal

pub returns-clause-tokens : goal.returns-clause-tokens
returns-clause-tokens c = rw (sym c.self.view_is) c.write.ensures.tokens
