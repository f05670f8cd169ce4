use Rattle.std.proofs.Common.{arith}
use Rattle.std.proofs.lemmas.Grind.{common_steps}
use Rattle.firm_periods.proofs.approvals_sink.callers_of.Goals as goal

pub loop-act-preserved : goal.loop-act-preserved
loop-act-preserved c = λ m n. grind (arith, common_steps, c.loop-act.invariant m n, c.in_ok-add_caller.ensures m n)
