use Rattle.statement_lines.proofs.Names.{◌≡◌, ◌++◌, map, take, text_key}
use Rattle.statement_lines.proofs.mark.add_numbers.Given as goal

abbrev pub invariant-loop-number : goal.invariant-loop-number
invariant-loop-number l = l.marks.items ≡ l.fn.marks.items ++ map (text_key 0) (take l.number-index l.numbers)
