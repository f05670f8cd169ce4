use Rattle.firm_audit.proofs.Names.{refl, slice_get_read, IfSome_then}
use Rattle.firm_audit.proofs.journal.first_flaw.Goals as goal

pub returns-then-is_some-clause-flaw : goal.returns-then-is_some-clause-flaw
returns-then-is_some-clause-flaw c = IfSome_then c.in_ok-found.found c.in_ok-found.ensures.flaw (λ f flawed. record {
  index = c.loop-kept.kept-index;
  kept = c.kept-item.result;
  there = slice_get_read c.args.matters.now _ c.loop-kept.kept-index c.kept-item.result refl c.loop-kept-test.true c.kept-item.is;
  flawed = flawed;
})
