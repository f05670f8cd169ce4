use Rattle.firm_audit.proofs.Names.{inl, refl, sym, ◌∙◌, false≢true, slice_get_read, IsKeptWhole}
use Rattle.firm_audit.proofs.matters.unsound.Goals as goal

pub returns-then-not-branch-clause-some : goal.returns-then-not-branch-clause-some
returns-then-not-branch-clause-some c = record {
  index = c.loop-kept.kept-index;
  kept = c.kept-item.result;
  there = slice_get_read c.args.matters.now _ c.loop-kept.kept-index c.kept-item.result refl c.loop-kept-test.true c.kept-item.is;
  number = refl;
  flawed = inl (λ (whole : IsKeptWhole c.kept-item.result).
      false≢true (sym c.if-not-branch.true ∙ c.in_ok-is_sound_whole.ensures.1 (record { sound = whole.sound; whole = whole.whole })));
}
