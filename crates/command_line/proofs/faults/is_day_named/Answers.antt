use Rattle.command_line.proofs.AdviceFacts.{day-named-more}
use Rattle.command_line.proofs.faults.is_day_named.Goals as goal

pub loop-word-preserved : goal.loop-word-preserved
loop-word-preserved c = day-named-more c.args.words.now c.loop-word.word-index _ _ _ c.loop-word-test.true c.loop-word.invariant c.begins-is_named.ensures
