use Rattle.trust_store.proofs.Names.{subst, Rows, IsWhole}
use Rattle.trust_store.proofs.KeptMatters.{firm_rows}
use Rattle.trust_store.proofs.plain.PlainBookBook.matter.Goals as goal

pub returns-clause-whole : goal.returns-clause-whole
returns-clause-whole c =
    λ _ _. subst (λ (rows : Rows). IsWhole c.in_ok-matter_of.field-0 rows) (firm_rows c.args.matter c.deref.result.now c.self.inside.matters.items c.self.inside.movements.items c.self.inside.own c.self.inside.exceptions.items c.self.inside.balances.items c.self.inside.acts.items c.self.inside.dismissals.items c.args.self.now c.deref.ensures.value c.self.invariant.matters.ascends c.self.view_is) c.in_ok-matter_of.ensures
