use Rattle.firm_periods.proofs.Names.{◌≡◌, ◌+ℤ◌, ◌<◌, ◌++◌, ◌∷◌, [], ◌∙◌, sym, ap, length, take, arith, ints, ℤ}
use Rattle.std.proofs.Common.{to_z, of_z, w64}
use Rattle.std.specs.Int.{w128}
use Rattle.firm_periods.specs.Accounts.{account_from, closing_from}
use Rattle.firm_periods.proofs.AccountRules.{closing-next, from-next}
use Rattle.firm_periods.proofs.account.accounted.Goals as goal

pub loop-one-preserved : goal.loop-one-preserved
loop-one-preserved c =
    let z : ℤ = to_z w128 (of_z w128 c.args.opening) in
    let vs = c.as_slice-all.result.now in
    let i = c.loop-one.one-index in
    let v = c.one-item.result in
    let inside : i < length vs = omega arith in
    let lines = from-next z vs i v inside c.one-item.is in
    let last = closing-next z vs i v inside c.one-item.is in
    let amount : c.one.inside.moved.amount ≡ v.moved.amount = ap (λ w. w.moved.amount) c.one.view_is in
    let so_far = c.loop-one.invariant.lines in
    let so_much = c.loop-one.invariant.ledger in
    let small = c.loop-one.invariant.small in
    let little = c.one.invariant in
    let pushed = c.in_ok-push.ensures.items in
    let next : to_z w128 (of_z w128 (to_z w128 c.loop-one.ledger-bits +ℤ to_z w128 (of_z w128 (to_z w64 (of_z w64 c.one.inside.moved.amount))))) ≡ closing_from z (account_from z (take i vs)) +ℤ v.moved.amount = omega (arith, ints, amount, so_much, small, little) in
    record {
      lines = pushed ∙ ((λ j. so_far j ++ record { number = (c.one.view_is j).number; entry = (c.one.view_is j).entry; moved = (c.one.view_is j).moved; ledger = next j } ∷ []) ∙ sym lines);
      ledger = next ∙ sym last;
      small = omega (arith, ints, small, little);
    }
