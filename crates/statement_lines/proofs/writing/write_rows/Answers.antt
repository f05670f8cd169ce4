use Rattle.statement_lines.proofs.Names.{arith, rows_of, HasLeft, rows_by}
use Rattle.statement_lines.proofs.RowsWritten.{adds-none}
use Rattle.statement_lines.proofs.writing.write_rows.Goals as goal

pub returns-in_default : goal.returns-in_default
unfolding rows_by
returns-in_default g c = grind (arith, adds-none)

pub returns : goal.returns
returns g c = λ outcome_of n o.
    let left : HasLeft c.in-Some.rows (rows_of c.args.statement.now) = rw c.in-Some.is at c.in_ok-rows.ensures in
    c.write_left.ensures outcome_of (rows_of c.args.statement.now) left n o
