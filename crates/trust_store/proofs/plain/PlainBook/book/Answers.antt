use Rattle.trust_store.proofs.Names.{◌≡◌, ◌∙◌, ◌+ℤ◌, ℤ, refl, rules, subst, to_z, of_z, w64, IsOwnBalance, balance_of, as_firm_line}
use Rattle.trust_store.proofs.Places.{kept_with_own}
use Rattle.trust_store.proofs.plain.PlainBook.book.Goals as goal

pub book_line-requires : goal.book_line-requires
book_line-requires c = search (rules, to_z, w64, of_z)

pub invariant_of-self-2 : goal.invariant_of-self-2
invariant_of-self-2 c =
    let same : to_z w64 (of_z w64 c.balance.result) ≡ c.balance.result = search rules in
    let may : IsOwnBalance (balance_of c.self.inside.own +ℤ c.args.line.now.amount) = subst (λ (z : ℤ). IsOwnBalance (z +ℤ c.args.line.now.amount)) (same ∙ c.balance.ensures.value) (c.if-not-may_own.ensures.0 refl) in
    kept_with_own c.self.inside.matters.items c.self.inside.movements.items c.self.inside.own c.self.inside.exceptions.items c.self.inside.balances.items c.self.invariant (as_firm_line c.args.line.now) c.book_line.new.movements.items c.book_line.new.own may c.in_ok-book_line.ensures.moved c.in_ok-book_line.ensures.booked
