use Rattle.command_line.proofs.Names.{◌≡◌, take, last_setting, words_of}
use Rattle.command_line.proofs.faults.last_setting.Given as goal

abbrev pub invariant-loop-word : goal.invariant-loop-word
invariant-loop-word l = l.last ≡ last_setting (take l.word-index (words_of l.words))
