use Rattle.firm_audit.proofs.Names.{◌≡◌, ◌+◌, take, ap, ℕ, subst, arith, to_z, of_z, ◌+ℤ◌, ints, balance_of, IsOwnBalance}
use Rattle.std.specs.Int.{w64}
use Rattle.firm_audit.proofs.Totals.{sum-more, each-more}
use Rattle.firm_audit.proofs.own_money.outside.Goals as goal
use Rattle.firm_audit.proofs.own_money.outside.Goals.{then-balance-lt0-via-then-balance-lt0, then-balance-lt0-via-else-balance-lt0+then-balance}

pub loop-line-preserved : goal.loop-line-preserved
loop-line-preserved c =
    let lines = c.args.lines.now in
    let place = c.loop-line.line-index in
    let so = c.loop-line.invariant in
    let amount = c.get-balance.ensures.value in
    let before : IsOwnBalance (balance_of (take place lines)) = so.within place (omega arith) in
    let step : balance_of (take (place + 1) lines) ≡ balance_of (take place lines) +ℤ c.line-item.result.amount =
    sum-more (λ l. l.amount) lines place c.line-item.result c.loop-line-test.true c.line-item.is in
    -- one after another a tactic would read the first beside the second
    let both : IsOwnBalance (balance_of (take (place + 1) lines)) × (to_z w64 (of_z w64 (to_z w64 c.loop-line.balance-bits +ℤ to_z w64 (of_z w64 c.get-balance.result))) ≡ balance_of (take (place + 1) lines)) =
    ((omega (arith, ints, step, amount, so.sum, before.0, before.1), omega (arith, ints, step, amount, so.sum, before.0, before.1)), omega (arith, ints, step, amount, so.sum, before.0, before.1)) in
    record {
      place = ap (λ (n : ℕ). n + 1) so.place;
      sum = both.1;
      within = each-more IsOwnBalance (λ l. l.amount) lines place so.within both.0;
    }

pub returns-then-balance-lt0-clause-some : goal.returns-then-balance-lt0-clause-some
returns-then-balance-lt0-clause-some c =
    let lines = c.args.lines.now in
    let place = c.loop-line.line-index in
    let so = c.loop-line.invariant in
    let amount = c.get-balance.ensures.value in
    let before : IsOwnBalance (balance_of (take place lines)) = so.within place (omega arith) in
    let step : balance_of (take (place + 1) lines) ≡ balance_of (take place lines) +ℤ c.line-item.result.amount =
    sum-more (λ l. l.amount) lines place c.line-item.result c.loop-line-test.true c.line-item.is in
    record {
      first = omega arith;
      within = omega (arith, so.place, c.loop-line-test.true);
      outside = λ own.
          let here : IsOwnBalance (balance_of (take (place + 1) lines)) = subst (λ (n : ℕ). IsOwnBalance (balance_of (take (n + 1) lines))) so.place own in
          elim c.then-balance-lt0.branch [
            | then-balance-lt0-via-then-balance-lt0 w ↦ omega (arith, ints, step, amount, so.sum, before.0, before.1, here.0, here.1, w.if-balance-lt0.true)
            | then-balance-lt0-via-else-balance-lt0+then-balance w ↦ omega (arith, ints, step, amount, so.sum, before.0, before.1, here.0, here.1, w.if-balance.true)
          ];
    }
