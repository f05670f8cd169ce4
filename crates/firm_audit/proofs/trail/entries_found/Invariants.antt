use Rattle.firm_audit.proofs.Names.{AllByRecursion, drop, take}
use Rattle.firm_audit.specs.Trails.{AreCountedOn, IsKeptApproved}
use Rattle.firm_audit.proofs.trail.entries_found.Given as goal

abbrev pub invariant-loop-one : goal.invariant-loop-one
invariant-loop-one l = record {
  rest : AllByRecursion (IsKeptApproved l.acts) (drop l.one-index l.kept) → AllByRecursion (IsKeptApproved l.acts) l.kept;
  counted : AreCountedOn l.acts (take l.one-index l.kept) l.fn.before l.counts;
}
