use Rattle.matter_rows.proofs.Names.{ap, arith, held_share, available_share, disputed_share, fee_share, claim_share, pending_share}
use Rattle.matter_rows.proofs.Adding.{fits, next, small-sums}
use Rattle.matter_rows.proofs.totals.sums_of.Goals as goal

pub overflow_add-sums-in-loop-entry : goal.overflow_add-sums-in-loop-entry
overflow_add-sums-in-loop-entry c = fits c.loop-entry.sums.available c.shares-shares.result.available c.loop-entry.entry-index c.loop-entry.invariant.available.small c.shares-shares.ensures.small.available (omega (arith, c.requires))

pub overflow_add-sums-in-loop-entry-2 : goal.overflow_add-sums-in-loop-entry-2
overflow_add-sums-in-loop-entry-2 c = fits c.loop-entry.sums.disputed c.shares-shares.result.disputed c.loop-entry.entry-index c.loop-entry.invariant.disputed.small c.shares-shares.ensures.small.disputed (omega (arith, c.requires))

pub overflow_add-sums-in-loop-entry-3 : goal.overflow_add-sums-in-loop-entry-3
overflow_add-sums-in-loop-entry-3 c = fits c.loop-entry.sums.fees c.shares-shares.result.fees c.loop-entry.entry-index c.loop-entry.invariant.fees.small c.shares-shares.ensures.small.fees (omega (arith, c.requires))

pub overflow_add-sums-in-loop-entry-4 : goal.overflow_add-sums-in-loop-entry-4
overflow_add-sums-in-loop-entry-4 c = fits c.loop-entry.sums.claims c.shares-shares.result.claims c.loop-entry.entry-index c.loop-entry.invariant.claims.small c.shares-shares.ensures.small.claims (omega (arith, c.requires))

pub overflow_add-sums-in-loop-entry-5 : goal.overflow_add-sums-in-loop-entry-5
overflow_add-sums-in-loop-entry-5 c = fits c.loop-entry.sums.pending c.shares-shares.result.pending c.loop-entry.entry-index c.loop-entry.invariant.pending.small c.shares-shares.ensures.small.pending (omega (arith, c.requires))

pub loop-entry-preserved : goal.loop-entry-preserved
loop-entry-preserved c = record {
  held = next held_share c.args.entries.now c.loop-entry.entry-index c.entry-item.result _ _ c.loop-entry.invariant.held (omega arith) c.requires c.entry-item.is (ap (λ s. s.held) c.shares-shares.ensures.is) c.shares-shares.ensures.small.held;
  available = next available_share c.args.entries.now c.loop-entry.entry-index c.entry-item.result _ _ c.loop-entry.invariant.available (omega arith) c.requires c.entry-item.is (ap (λ s. s.available) c.shares-shares.ensures.is) c.shares-shares.ensures.small.available;
  disputed = next disputed_share c.args.entries.now c.loop-entry.entry-index c.entry-item.result _ _ c.loop-entry.invariant.disputed (omega arith) c.requires c.entry-item.is (ap (λ s. s.disputed) c.shares-shares.ensures.is) c.shares-shares.ensures.small.disputed;
  fees = next fee_share c.args.entries.now c.loop-entry.entry-index c.entry-item.result _ _ c.loop-entry.invariant.fees (omega arith) c.requires c.entry-item.is (ap (λ s. s.fees) c.shares-shares.ensures.is) c.shares-shares.ensures.small.fees;
  claims = next claim_share c.args.entries.now c.loop-entry.entry-index c.entry-item.result _ _ c.loop-entry.invariant.claims (omega arith) c.requires c.entry-item.is (ap (λ s. s.claims) c.shares-shares.ensures.is) c.shares-shares.ensures.small.claims;
  pending = next pending_share c.args.entries.now c.loop-entry.entry-index c.entry-item.result _ _ c.loop-entry.invariant.pending (omega arith) c.requires c.entry-item.is (ap (λ s. s.pending) c.shares-shares.ensures.is) c.shares-shares.ensures.small.pending;
}

pub returns-clause-small : goal.returns-clause-small
returns-clause-small c = small-sums c.args.entries.now c.loop-entry.entry-index c.loop-entry.sums c.loop-entry.invariant (omega arith) c.requires
