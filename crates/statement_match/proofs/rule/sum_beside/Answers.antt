use Rattle.statement_match.proofs.Names.{◌∙◌, sym, ap, ◌<◌, length, arith, ints, to_z-of_z, get_or-map, length-map, booking_of, is_beside, elements}
use Rattle.statement_match.proofs.Totals.{total_more}
use Rattle.statement_match.proofs.rule.sum_beside.Goals as goal

pub loop-entry-preserved : goal.loop-entry-preserved
loop-entry-preserved c =
    let found = c.args.bookings.now in
    let place = c.loop-entry.entry-index in
    let entry = c.entry-item.result in
    let inside : place < length found = omega arith in
    let within : place < length (elements found) = omega (arith, inside, length-map found (λ e. e.1.now)) in
    let more = total_more (is_beside (booking_of c.args.line.now)) (elements found) place
    entry.1.now within
    (ap (λ e. e.1.now) c.entry-item.is ∙ sym (get_or-map (λ e. e.1.now) found place entry entry.1.now inside)) in
    let told = c.amount_beside.ensures in
    let so_far = c.loop-entry.invariant.sum in
    record {
      sum = grind (arith, ints, to_z-of_z, more, told, so_far);
      low = omega (arith, ints);
      high = omega (arith, ints);
    }
