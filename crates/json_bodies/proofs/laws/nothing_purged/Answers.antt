use Rattle.json_bodies.proofs.Trial.{purged-none}
use Rattle.json_bodies.proofs.laws.nothing_purged.Goals as goal

pub returns : goal.returns
returns c = purged-none
