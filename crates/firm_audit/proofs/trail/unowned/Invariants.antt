use Rattle.firm_audit.proofs.Names.{AllByRecursion, drop}
use Rattle.firm_audit.specs.Trails.{IsAmong}
use Rattle.firm_audit.proofs.trail.unowned.Given as goal

abbrev pub invariant-loop-act : goal.invariant-loop-act
invariant-loop-act l =
    AllByRecursion (λ a. IsAmong l.matters a.matter) (drop l.act-index l.acts)
    → AllByRecursion (λ a. IsAmong l.matters a.matter) l.acts
