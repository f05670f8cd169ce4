use Rattle.std.proofs.Common.{arith}
use Rattle.std.proofs.lemmas.Bool.Decides.{nat_tests}
use Rattle.statement_lines.proofs.WrittenDays.{six_near}
use Rattle.statement_lines.proofs.written_day.is_near_in_six.Goals as goal

pub returns-then-is_day_near_in_century : goal.returns-then-is_day_near_in_century
returns-then-is_day_near_in_century c =
    let e = six_near c.args.day c.args.number c.requires in grind (arith, nat_tests)

pub returns-else-is_day_near_in_century : goal.returns-else-is_day_near_in_century
returns-else-is_day_near_in_century c =
    let e = six_near c.args.day c.args.number c.requires in grind (arith, nat_tests)
