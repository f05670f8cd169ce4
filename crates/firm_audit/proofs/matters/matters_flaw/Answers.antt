use Rattle.firm_audit.proofs.Names.{inr, ap, refl, KeptMatter, arith, ints, nat_tests, slice_get_read}
use Rattle.firm_audit.proofs.Ascending.{ascends}
use Rattle.firm_audit.proofs.matters.matters_flaw.Goals as goal

pub returns-in-Some-clause-flaw : goal.returns-in-Some-clause-flaw
returns-in-Some-clause-flaw c = record {
  index = c.in-Some.place;
  kept = c.index-matters-place.result;
  there = slice_get_read c.args.matters.now _ c.in-Some.place c.index-matters-place.result refl c.in-Some.ensures.within c.index-matters-place.is;
  number = ap (λ (k : KeptMatter). k.number) c.index-matters-place.is;
  flawed = inr c.in-Some.ensures.misplaced;
}

pub returns-clause-sound : goal.returns-clause-sound
returns-clause-sound c = grind (arith, ints, nat_tests, ascends)
