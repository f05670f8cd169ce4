use Rattle.statement_lines.proofs.Names.{◌∙◌, rows_of, HasLeft, arith, ints, nat_tests}
use Rattle.statement_lines.proofs.RecordsRead.{all_records, none_of}
use Rattle.statement_lines.proofs.records.records_in.Goals as goal

pub returns-in_default : goal.returns-in_default
returns-in_default c = c.new-records.ensures ∙ none_of c.args.statement.now (rw c.in_default.is at c.in_ok-rows.ensures)

pub returns : goal.returns
returns c =
    let left : HasLeft c.in-Some.rows (rows_of c.args.statement.now) = rw c.in-Some.is at c.in_ok-rows.ensures in
    let kept = c.in_ok-add_rows.ensures (rows_of c.args.statement.now) left in
    (rw c.new-records.ensures at kept) ∙ all_records c.args.statement.now
