use Rattle.firm_audit.proofs.Names.{◌↔◌, AllByRecursion, drop}
use Rattle.firm_audit.specs.Trails.{MayBeAllowed}
use Rattle.firm_audit.proofs.trail.may_all_be_allowed.Given as goal

abbrev pub invariant-loop-act : goal.invariant-loop-act
invariant-loop-act l = AllByRecursion MayBeAllowed (drop l.act-index l.acts) ↔ AllByRecursion MayBeAllowed l.acts
