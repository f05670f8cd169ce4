use Rattle.firm_audit.proofs.Names.{refl, sym, ◌∙◌, false≢true, slice_get_read}
use Rattle.firm_audit.proofs.matter_journal.unlike.Goals as goal

pub returns-then-not-is_moved-clause-some : goal.returns-then-not-is_moved-clause-some
returns-then-not-is_moved-clause-some c = record {
  index = c.loop-one.one-index;
  kept = c.one-item.result;
  there = slice_get_read c.args.kept.now _ c.loop-one.one-index c.one-item.result refl c.loop-one-test.true c.one-item.is;
  number = refl;
  unlike = λ same. false≢true (sym c.if-not-is_moved.true ∙ c.is_moved.ensures.1 same);
}
