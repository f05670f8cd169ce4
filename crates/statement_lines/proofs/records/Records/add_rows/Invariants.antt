use Rattle.statement_lines.proofs.Names.{◌≡◌, ◌<◌, fold, Rows, with_record, HasLeft}
use Rattle.statement_lines.proofs.records.Records.add_rows.Given as goal

abbrev pub invariant-loop-row : goal.invariant-loop-row
invariant-loop-row l =
    (all : Rows) → HasLeft l.fn.rows all
    → (0 < l.row-iterator.left) × ((left : Rows) × HasLeft l.row-iterator.rdr.now left
    × (fold with_record l.self left ≡ fold with_record l.fn.self all))
