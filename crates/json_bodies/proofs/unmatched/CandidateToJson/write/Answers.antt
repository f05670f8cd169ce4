use Rattle.json_bodies.proofs.unmatched.CandidateToJson.write.Goals as goal

pub returns-clause-tokens : goal.returns-clause-tokens
returns-clause-tokens c = rw c.word.ensures at c.write.ensures.tokens
