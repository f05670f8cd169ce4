use Rattle.portal_requests.proofs.Names.{add-one, arith, err_from_is_err_and, refl, the_routes, TABLE}
use Rattle.portal_requests.proofs.TableFacts.{none-left, next-taken, only-memory, rows-more, table-taken, taken-more}
use Rattle.portal_requests.proofs.routes.Routes.new.Goals as goal

pub loop-path-init : goal.loop-path-init
unfolding the_routes TABLE
loop-path-init c = record { rows = rw c.new-router.ensures refl; taken = rw c.new-router.ensures table-taken }

pub returns-in_err-insert : goal.returns-in_err-insert
returns-in_err-insert c =
    let told = err_from_is_err_and c.from_residual.result c.from_residual.ensures.1 in
    record { memory = rw (told.1, told.2) (only-memory _ _ _ _ _ c.in_err-insert.ensures (next-taken _ c.loop-path.path-index _ _ c.loop-path.invariant.taken (omega arith))) }

pub loop-path-preserved : goal.loop-path-preserved
loop-path-preserved c = record {
  rows = rw add-one (rows-more _ c.loop-path.path-index _ _ _ _ _ c.loop-path.invariant.rows c.in_ok-insert.ensures (omega arith));
  taken = rw add-one (taken-more _ c.loop-path.path-index _ _ _ _ c.loop-path.invariant.taken c.in_ok-insert.ensures (omega arith));
}

pub invariant_of-result : goal.invariant_of-result
invariant_of-result c = none-left _ c.loop-path.path-index _ _ c.loop-path.invariant.rows (omega arith)
