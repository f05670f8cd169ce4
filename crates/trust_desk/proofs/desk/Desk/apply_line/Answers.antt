use Rattle.trust_desk.proofs.Names.{◌≡◌, arith, ints, nat_tests, subst, sym}
use Rattle.trust_desk.specs.ItemStep.{KeepsUnnamed}
use Rattle.trust_desk.proofs.Beside.{kept-alone}
use Rattle.trust_desk.proofs.OwnItems.{others-beside, own-item}
use Rattle.trust_desk.proofs.desk.Desk.apply_line.Goals as goal

pub returns-clause-step : goal.returns-clause-step
returns-clause-step g c = grind (arith, ints, nat_tests)

pub returns-clause-err : goal.returns-clause-err
returns-clause-err g c = grind (arith, ints, nat_tests)

pub returns-clause-own : goal.returns-clause-own
returns-clause-own g c = grind (arith, ints, nat_tests, own-item)

pub returns-clause-others : goal.returns-clause-others
returns-clause-others g c =
    let seen = g.B.Book.seen in
    let same : c.self.inside.book ≡ c.args.self.now = grind (arith, ints, nat_tests) in
    λ clean stands. subst (λ b. KeepsUnnamed (seen b).firm c.args.item.now (seen c.apply_item.new.book).firm) same (others-beside c.apply_item.ensures clean (subst (λ b. (seen b).stands) (sym same) stands))

pub returns-clause-kept : goal.returns-clause-kept
returns-clause-kept g c = grind (arith, ints, nat_tests, kept-alone)

pub returns-clause-crash : goal.returns-clause-crash
returns-clause-crash g c = grind (arith, ints, nat_tests)
