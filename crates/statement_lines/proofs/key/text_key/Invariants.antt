use Rattle.statement_lines.proofs.Names.{◌≡◌, fold, take, next_key}
use Rattle.statement_lines.proofs.key.text_key.Given as goal

abbrev pub invariant-loop-byte : goal.invariant-loop-byte
invariant-loop-byte l = l.key ≡ fold next_key l.start (take l.byte-index l.text)
