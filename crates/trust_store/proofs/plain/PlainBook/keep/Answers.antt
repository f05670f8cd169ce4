use Rattle.trust_store.proofs.Places.{kept_with_balance}
use Rattle.trust_store.proofs.plain.PlainBook.keep.Goals as goal

pub invariant_of-self-2 : goal.invariant_of-self-2
invariant_of-self-2 c = kept_with_balance c.self.inside.matters.items c.self.inside.movements.items c.self.inside.own c.self.inside.exceptions.items c.self.inside.balances.items c.self.invariant c.of-row.result c.add_balance.new.rows.items c.in_ok-add_balance.ensures.ok
