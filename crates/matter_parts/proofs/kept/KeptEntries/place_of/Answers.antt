use Rattle.matter_parts.proofs.Names.{◌≡◌, arith}
use Rattle.matter_parts.proofs.ByPlace.{placed, not-placed}
use Rattle.matter_parts.proofs.kept.KeptEntries.place_of.Goals as goal

pub returns-then-number-len : goal.returns-then-number-len
returns-then-number-len c =
    let own : c.self.inside.entries.items ≡ c.args.self.now = cc in
    grind (arith, (placed c.args.number c.args.self.now (rw own at (c.self.invariant c.if-not-self.false))))

pub returns-else-number-ge1 : goal.returns-else-number-ge1
returns-else-number-ge1 c =
    let own : c.self.inside.entries.items ≡ c.args.self.now = cc in
    grind (arith, (not-placed c.args.number c.args.self.now (rw own at (c.self.invariant c.if-not-self.false))))
