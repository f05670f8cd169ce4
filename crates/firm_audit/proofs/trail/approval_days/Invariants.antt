use Rattle.firm_audit.proofs.Names.{◌≡◌, take}
use Rattle.trail_laws.specs.Signed.{days_of_approval}
use Rattle.firm_audit.proofs.trail.approval_days.Given as goal

abbrev pub invariant-loop-act : goal.invariant-loop-act
invariant-loop-act l = l.days.items ≡ days_of_approval l.number (take l.act-index l.acts)
