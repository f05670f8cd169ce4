use Rattle.firm_figures.proofs.Names.{◌≡◌, take, filter, is_double_in}
use Rattle.firm_figures.proofs.day_lists.doubles_of.Given as goal

-- the doubles so far
abbrev pub invariant-loop-place : goal.invariant-loop-place
invariant-loop-place l = l.doubles.items ≡ filter (is_double_in l.sorted) (take l.place l.sorted)
