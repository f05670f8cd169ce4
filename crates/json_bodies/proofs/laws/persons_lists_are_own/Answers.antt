use Rattle.json_bodies.proofs.Own.{persons-own}
use Rattle.json_bodies.proofs.laws.persons_lists_are_own.Goals as goal

pub returns : goal.returns
returns c = persons-own
