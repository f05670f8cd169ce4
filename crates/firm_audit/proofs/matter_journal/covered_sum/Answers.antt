use Rattle.firm_audit.proofs.Names.{◌≡◌, ◌+◌, take, arith, pos, ◌+ℤ◌, ◌≤ℤ◌, ints, moved_sum}
use Rattle.firm_audit.proofs.Totals.{sum-more, each-more}
use Rattle.firm_audit.proofs.matter_journal.covered_sum.Goals as goal

pub returns-then-sum-lt0-clause-overdrawn : goal.returns-then-sum-lt0-clause-overdrawn
returns-then-sum-lt0-clause-overdrawn c =
    let own = c.args.own.now in
    let place = c.loop-movement.movement-index in
    let so = c.loop-movement.invariant in
    let told = c.from-sum.ensures in
    let step : moved_sum (take (place + 1) own) ≡ moved_sum (take place own) +ℤ c.movement-item.result.amount =
    sum-more (λ v. v.amount) own place c.movement-item.result c.loop-movement-test.true c.movement-item.is in
    (place + 1, omega (arith, ints, step, told, so.sum, so.low, so.high, c.if-sum-lt0.true))

pub loop-movement-preserved : goal.loop-movement-preserved
loop-movement-preserved c =
    let own = c.args.own.now in
    let place = c.loop-movement.movement-index in
    let so = c.loop-movement.invariant in
    let told = c.from-sum.ensures in
    let step : moved_sum (take (place + 1) own) ≡ moved_sum (take place own) +ℤ c.movement-item.result.amount =
    sum-more (λ v. v.amount) own place c.movement-item.result c.loop-movement-test.true c.movement-item.is in
    record {
      sum = omega (arith, ints, step, told, so.sum, so.low, so.high);
      covered = each-more (λ z. pos 0 ≤ℤ z) (λ v. v.amount) own place so.covered (omega (arith, ints, step, told, so.sum, so.low, so.high, c.if-sum-lt0.false));
      low = omega (arith, ints, c.if-sum-lt0.false);
      high = omega (arith, ints, step, told, so.sum, so.low, so.high);
    }
