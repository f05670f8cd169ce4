use Rattle.firm_audit.proofs.Names.{◌≡◌, drop, AllByRecursion, IsOwned}
use Rattle.firm_audit.proofs.journal.unowned.Given as goal

abbrev pub invariant-loop-movement : goal.invariant-loop-movement
invariant-loop-movement l = record {
  place : l.place ≡ l.movement-index;
  rest : AllByRecursion (λ v. IsOwned l.matters v.owner) (drop l.movement-index l.movements)
      → AllByRecursion (λ v. IsOwned l.matters v.owner) l.movements;
}
