use Rattle.firm_audit.proofs.Names.{drop, AllByRecursion, IsKeptWhole}
use Rattle.firm_audit.proofs.matters.unsound.Given as goal

abbrev pub invariant-loop-kept : goal.invariant-loop-kept
invariant-loop-kept l = AllByRecursion IsKeptWhole (drop l.kept-index l.matters) → AllByRecursion IsKeptWhole l.matters
