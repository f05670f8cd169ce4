use Rattle.statement_lines.proofs.Names.{◌≡◌, take, map, filter, is_number, without_zeros}
use Rattle.statement_lines.proofs.number.numbers_among.Given as goal

abbrev pub invariant-loop-token : goal.invariant-loop-token
invariant-loop-token l = l.found.items ≡ map without_zeros (filter is_number (take l.token-index l.tokens))
