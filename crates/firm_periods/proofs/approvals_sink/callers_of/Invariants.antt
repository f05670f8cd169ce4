use Rattle.std.proofs.Common.{◌≡◌, ◌&&◌, ℕ, nat_eq, take}
use Rattle.std.specs.HashMap.{get}
use Rattle.firm_periods.specs.Approvals.{approver_in}
use Rattle.firm_periods.proofs.approvals_sink.callers_of.Given as goal

-- who approved what by the acts so far
abbrev pub invariant-loop-act : goal.invariant-loop-act
invariant-loop-act l = (m n : ℕ) → get (λ x y. nat_eq x.0 y.0 && nat_eq x.1 y.1) l.callers (m, n) ≡ approver_in (take l.act-index l.acts) m n
