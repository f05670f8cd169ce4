use Rattle.firm_audit.proofs.Names.{refl, sym, ◌∙◌, arith, false≢true, slice_get_read}
use Rattle.firm_audit.proofs.Strays.{not-owned}
use Rattle.firm_audit.proofs.journal.unowned.Goals as goal

pub returns-then-not-is_owner-clause-some : goal.returns-then-not-is_owner-clause-some
returns-then-not-is_owner-clause-some c = record {
  index = c.loop-movement.movement-index;
  number = omega (arith, c.loop-movement.invariant.place);
  movement = c.movement-item.result;
  there = slice_get_read c.args.movements.now _ c.loop-movement.movement-index c.movement-item.result refl c.loop-movement-test.true c.movement-item.is;
  unowned = not-owned c.args.matters.now c.movement-item.result.owner (λ owned. false≢true (sym c.if-not-is_owner.true ∙ c.is_owner.ensures.1 owned));
}
