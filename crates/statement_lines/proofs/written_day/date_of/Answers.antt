use Rattle.statement_lines.proofs.WrittenDays.{is_date}
use Rattle.statement_lines.proofs.written_day.date_of.Goals as goal

pub unreachable-requires : goal.unreachable-requires
unreachable-requires c =
    let date = is_date c.get-number.result c.get-number.ensures.range in
    let other = c.in_default.ensures.succeeds.1 date in
    absurd (cc)
