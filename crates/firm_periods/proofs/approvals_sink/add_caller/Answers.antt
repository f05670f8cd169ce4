use Rattle.std.proofs.Common.{arith}
use Rattle.std.proofs.lemmas.Grind.{common_steps}
use Rattle.firm_periods.proofs.approvals_sink.add_caller.Goals as goal

pub returns : goal.returns
returns c = λ m n. grind (arith, common_steps, c.in_ok-insert.ensures.updates.0 (m, n))
