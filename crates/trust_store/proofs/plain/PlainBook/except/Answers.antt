use Rattle.trust_store.proofs.Places.{kept_with_line}
use Rattle.trust_store.proofs.plain.PlainBook.except.Goals as goal

pub invariant_of-self-2 : goal.invariant_of-self-2
invariant_of-self-2 c = kept_with_line c.self.inside.matters.items c.self.inside.movements.items c.self.inside.own c.self.inside.exceptions.items c.self.inside.balances.items c.self.invariant c.args.line.now c.add_line.new.lines.items c.in_ok-add_line.ensures.ok
