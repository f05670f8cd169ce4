use Rattle.matter_parts.proofs.Drawn.{AreDrawnTo}
use Rattle.matter_parts.proofs.audit.drawn_on_each.Given as goal

abbrev pub invariant-loop-entry : goal.invariant-loop-entry
invariant-loop-entry l = AreDrawnTo l.entries l.entry-index l.drawn.items
