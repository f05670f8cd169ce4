use Rattle.firm_figures.proofs.Names.{◌≡◌, take, AreClosings, openings_after}
use Rattle.firm_figures.proofs.day_lists.openings_after.Given as goal

-- the lines so far
abbrev pub invariant-loop-opening : goal.invariant-loop-opening
invariant-loop-opening l = AreClosings l.closings → l.lines.items ≡ openings_after l.closings (take l.opening-index l.openings)
