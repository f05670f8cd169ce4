use Rattle.trust_desk.proofs.Names.{option_map, items}
use Rattle.trust_desk.proofs.ItemsRead.{IsSoFar}
use Rattle.trust_desk.proofs.importing.import_whole.Given as goal

abbrev pub invariant-loop-turn : goal.invariant-loop-turn
invariant-loop-turn g l =
    let B = g.B.Book in
    IsSoFar l.day (option_map items (g.R.Read.remaining l.fn.reader)) (B.seen l.fn.book) l.turn l.lines.left l.reply (B.seen l.book) l.own
