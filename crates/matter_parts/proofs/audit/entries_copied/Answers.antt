use Rattle.matter_parts.proofs.Names.{ap, ◌∙◌, take_all, entries_kept, arith}
use Rattle.matter_parts.proofs.Copied.{copied-more}
use Rattle.matter_parts.proofs.audit.entries_copied.Goals as goal

pub loop-one-preserved : goal.loop-one-preserved
loop-one-preserved c = grind (arith, copied-more)

pub returns : goal.returns
returns c = c.loop-one.invariant ∙ ap entries_kept (take_all c.loop-one.one-index c.args.kept.now c.loop-one-test.false)
