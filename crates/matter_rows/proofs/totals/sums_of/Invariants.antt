use Rattle.matter_rows.proofs.Adding.{AreSumsTo}
use Rattle.matter_rows.proofs.totals.sums_of.Given as goal

abbrev pub invariant-loop-entry : goal.invariant-loop-entry
invariant-loop-entry l = AreSumsTo l.entries l.entry-index l.sums
