use Rattle.firm_periods.proofs.Names.{◌<◌, length, arith, ints}
use Rattle.firm_periods.proofs.AccountRules.{before-next}
use Rattle.firm_periods.proofs.account.opening_on.Goals as goal

pub loop-one-preserved : goal.loop-one-preserved
loop-one-preserved c =
    let inside : c.loop-one.one-index < length c.args.kept.now = omega arith in
    let more = before-next c.args.day c.args.kept.now c.loop-one.one-index c.one-item.result inside c.one-item.is in
    let told = c.entry_before-sum.ensures.sum in
    let so_far = c.loop-one.invariant.sum in
    let small = c.loop-one.invariant.small in
    let little = c.entry_before-sum.ensures.small in
    record {
      sum = omega (arith, ints, more, told, so_far, small, little);
      small = omega (arith, ints, small, little);
    }
