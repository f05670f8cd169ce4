use Rattle.statement_lines.proofs.Names.{rules, amount_key, booking_key, claim_key, line_key, waiting_key}
use Rattle.statement_lines.proofs.index.Index.of.Goals as goal

pub invariant_of-result : goal.invariant_of-result
invariant_of-result c = record {
  waiting_found = rw (← c.held.view_is)
      (rw c.deref.ensures.value at (c.in_ok-waiting.ensures waiting_key (λ x r k. search rules)));
  bookings_found = rw (← c.held.view_is)
      (rw c.deref-2.ensures.value at (c.in_ok-bookings.ensures booking_key (λ x r k. search rules)));
  beside_found = c.in_ok-beside.ensures line_key (λ x r k. search rules);
  amounts_found = c.in_ok-amounts.ensures amount_key (λ x r k. search rules);
  claims_found = c.in_ok-claims.ensures claim_key (λ x r k. search rules);
}
