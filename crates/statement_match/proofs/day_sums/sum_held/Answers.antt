use Rattle.statement_match.proofs.Names.{◌∙◌, sym, ap, ◌<◌, length, arith, ints, to_z-of_z, get_or-map, length-map, is_held, elements, amount_of}
use Rattle.statement_match.proofs.Totals.{sum_more}
use Rattle.statement_match.proofs.day_sums.sum_held.Goals as goal

pub loop-entry-preserved : goal.loop-entry-preserved
loop-entry-preserved c =
    let found = c.args.found.now in
    let place = c.loop-entry.entry-index in
    let entry = c.entry-item.result in
    let inside : place < length found = omega arith in
    let within : place < length (elements found) = omega (arith, inside, length-map found (λ e. e.1.now)) in
    let more = sum_more amount_of (λ e. is_held e.state) (elements found) place entry.1.now within
    (ap (λ e. e.1.now) c.entry-item.is ∙ sym (get_or-map (λ e. e.1.now) found place entry entry.1.now inside)) in
    let told = c.amount_held.ensures in
    let so_far = c.loop-entry.invariant.sum in
    record {
      sum = grind (arith, ints, to_z-of_z, more, told, so_far);
      low = omega (arith, ints);
      high = omega (arith, ints);
    }
