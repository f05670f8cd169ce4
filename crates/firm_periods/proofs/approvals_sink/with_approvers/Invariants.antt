use Rattle.std.proofs.Common.{◌≡◌, map}
use Rattle.firm_periods.specs.Approvals.{approved_by}
use Rattle.firm_periods.proofs.approvals_sink.with_approvers.Given as goal

-- the payments so far, each with who approved it
abbrev pub invariant-loop-line : goal.invariant-loop-line
invariant-loop-line l = l.found.items ≡ map (approved_by l.acts) l.yielded
