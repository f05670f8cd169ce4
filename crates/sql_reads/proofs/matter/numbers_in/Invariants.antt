use Rattle.sql_reads.proofs.Names.{◌≡◌, List, map, pos, take, Head, no_shown}
use Rattle.sql_reads.proofs.matter.numbers_in.Given as goal

abbrev pub invariant-each : goal.invariant-each
invariant-each l = (hs : List Head) → l.rows ≡ map no_shown hs → map pos l.numbers.items ≡ map (λ (h : Head). h.no) (take l.row-index hs)
