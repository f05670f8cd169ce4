use Rattle.firm_audit.proofs.Names.{◌≡◌, suc, ◌-◌, ◌<◌, length, ap, Some, slice_get, refl, sym, ◌∙◌, arith, false≢true, slice_get_read}
use Rattle.firm_audit.proofs.Neighbours.{before-more}
use Rattle.firm_audit.proofs.order.out_of_order.Goals as goal

pub loop-place-preserved : goal.loop-place-preserved
loop-place-preserved g c =
    before-more g.T.Sorted.before c.args.rows.now c.loop-place.place c.index-rows-place.result c.index-rows-place-in-loop-place.result
    c.loop-place.invariant c.loop-place.auto.place c.loop-place-test.true c.index-rows-place.is c.index-rows-place-in-loop-place.is
    (c.is_before.ensures.0 c.if-not-is_before.false)

pub returns-then-not-is_before-clause-misplaced : goal.returns-then-not-is_before-clause-misplaced
returns-then-not-is_before-clause-misplaced g c =
    let rows = c.args.rows.now in
    let place = c.loop-place.place in
    let here : suc (place - 1) ≡ place = omega (arith, c.loop-place.auto.place) in
    let within : place - 1 < length rows = omega (arith, c.loop-place-test.true) in
    let next : slice_get rows place ≡ Some c.index-rows-place-in-loop-place.result = slice_get_read rows _ place c.index-rows-place-in-loop-place.result refl c.loop-place-test.true c.index-rows-place-in-loop-place.is in
    record {
      index = place - 1;
      number = omega (arith, c.loop-place.auto.place);
      one = c.index-rows-place.result;
      next = c.index-rows-place-in-loop-place.result;
      before = slice_get_read rows _ (place - 1) c.index-rows-place.result refl within c.index-rows-place.is;
      behind = ap (slice_get rows) here ∙ next;
      apart = λ before. false≢true (sym c.if-not-is_before.true ∙ c.is_before.ensures.1 before);
    }

pub returns-clause-sorted : goal.returns-clause-sorted
returns-clause-sorted g c = λ _ j d within. c.loop-place.invariant j d (omega (arith, within, c.loop-place-test.false)) within
