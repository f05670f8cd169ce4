use Rattle.std.proofs.Common.{arith}
use Rattle.std.proofs.lemmas.Bool.Decides.{nat_tests}
use Rattle.statement_lines.proofs.WrittenDays.{eight_near}
use Rattle.statement_lines.proofs.written_day.is_near_in_eight.Goals as goal

pub returns-then-is_day_near-2 : goal.returns-then-is_day_near-2
returns-then-is_day_near-2 c =
    let e = eight_near c.args.day c.args.number c.requires in grind (arith, nat_tests)

pub returns-else-is_day_near-2 : goal.returns-else-is_day_near-2
returns-else-is_day_near-2 c =
    let e = eight_near c.args.day c.args.number c.requires in grind (arith, nat_tests)
