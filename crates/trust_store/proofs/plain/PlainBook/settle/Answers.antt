use Rattle.trust_store.proofs.Places.{kept_without_line}
use Rattle.trust_store.proofs.plain.PlainBook.settle.Goals as goal

pub invariant_of-self : goal.invariant_of-self
invariant_of-self c = kept_without_line c.self.inside.matters.items c.self.inside.movements.items c.self.inside.own c.self.inside.exceptions.items c.self.inside.balances.items c.self.invariant c.args.line.now c.remove_line.new.lines.items c.remove_line.ensures
