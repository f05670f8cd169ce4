use Rattle.sql_rows.proofs.Names.{line_column, rules}
use Rattle.sql_rows.proofs.dismissal.dismissal_of.Goals as goal

pub returns-then-not-is_dismissal-clause-back : goal.returns-then-not-is_dismissal-clause-back
returns-then-not-is_dismissal-clause-back c d is same =
    absurd (c.is_dismissal.ensures.no (search rules) d.day (line_column d.line) same)
