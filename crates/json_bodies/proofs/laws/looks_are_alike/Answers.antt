use Rattle.std.proofs.Common.{refl}
use Rattle.json_bodies.proofs.laws.looks_are_alike.Goals as goal

pub returns : goal.returns
returns c = λ caller rows day. refl
