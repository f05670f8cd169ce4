use Rattle.command_line.proofs.Names.{inl, inr, arith, ints, nat_tests}
use Rattle.command_line.proofs.AdviceFacts.{none-taken, repeated, still-taken, stray}
use Rattle.command_line.proofs.faults.refused_word.Goals as goal

pub loop-place-init : goal.loop-place-init
loop-place-init c = inr (inl none-taken)

pub returns-in-Strays : goal.returns-in-Strays
returns-in-Strays c = stray c.args.words.now c.loop-place.place _ _ c.loop-place-test.true c.loop-place.invariant c.in-Strays.is c.front_of.ensures

pub returns-in-Repeats : goal.returns-in-Repeats
returns-in-Repeats c = repeated c.args.words.now c.loop-place.place _ _ c.loop-place.invariant c.in-Repeats.is c.front_of.ensures c.in_ok-last_setting-in-Repeats.ensures

pub loop-place-preserved : goal.loop-place-preserved
loop-place-preserved c = grind (arith, ints, nat_tests, still-taken)
