use Rattle.command_line.proofs.Names.{◌≡◌, take, list_any, names_day, words_of}
use Rattle.command_line.proofs.faults.is_day_named.Given as goal

abbrev pub invariant-loop-word : goal.invariant-loop-word
invariant-loop-word l = l.is_named ≡ list_any names_day (take l.word-index (words_of l.words))
