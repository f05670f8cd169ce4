use Rattle.matter_rows.proofs.Names.{refl, sym, ◌∙◌}
use Rattle.matter_rows.proofs.Tested.{order-first, order-next, order-done}
use Rattle.matter_rows.proofs.soundness.are_in_order.Goals as goal

pub loop-place-init : goal.loop-place-init
loop-place-init c = order-first c.args.seats.now

pub loop-place-preserved : goal.loop-place-preserved
loop-place-preserved c =
    order-next c.args.seats.now c.loop-place.place c.index-seats-place.result c.index-seats-place-in-loop-place.result c.loop-place.invariant c.loop-place.auto.place c.loop-place-test.true c.index-seats-place.is c.index-seats-place-in-loop-place.is
    (sym c.comes_before.ensures ∙ c.if-not-comes_before.false)

pub returns : goal.returns
returns c = (λ _. order-done c.args.seats.now c.loop-place.place c.loop-place.invariant c.loop-place-test.false, λ _. refl)
