use Rattle.portal_messages.proofs.Names.{◌≡◌, ◌++◌, take, drop, path_of}
use Rattle.portal_messages.proofs.input.path.Given as goal

abbrev pub invariant-loop-i : goal.invariant-loop-i
invariant-loop-i l = path_of l.target ≡ take l.i l.target ++ path_of (drop l.i l.target)
