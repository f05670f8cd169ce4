use Rattle.matter_rows.proofs.Names.{◌↔◌, drop, map, book_day, AreRising}
use Rattle.matter_rows.proofs.soundness.are_rising.Given as goal

abbrev pub invariant-loop-entry : goal.invariant-loop-entry
invariant-loop-entry l = AreRising l.fn.from (map book_day l.entries) ↔ AreRising l.before (map book_day (drop l.entry-index l.entries))
