use Rattle.command_line.proofs.Names.{take, IsTakenSoFar, words_of}
use Rattle.command_line.proofs.faults.refused_word.Given as goal

abbrev pub invariant-loop-place : goal.invariant-loop-place
invariant-loop-place l = IsTakenSoFar (take l.place (words_of l.words))
