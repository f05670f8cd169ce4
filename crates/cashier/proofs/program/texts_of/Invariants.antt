use Rattle.cashier.proofs.Names.{◌≡◌, map, take, string_bytes, words_of}
use Rattle.cashier.proofs.program.texts_of.Given as goal

abbrev pub invariant-loop-word : goal.invariant-loop-word
invariant-loop-word l = words_of l.texts.items ≡ map string_bytes (take l.word-index l.words)
