use Rattle.std.proofs.Common.{rules}
use Rattle.cashier.proofs.report.run_report.Goals.{in-Some, in_default-wanted}
use Rattle.cashier.proofs.report.run_report.Goals as goal

pub returns-in-Refused-clause-ends : goal.returns-in-Refused-clause-ends
returns-in-Refused-clause-ends g c =
    elim c.match-wanted.branch [ in-Some w ↦ search rules | in_default-wanted w ↦ search rules ]
