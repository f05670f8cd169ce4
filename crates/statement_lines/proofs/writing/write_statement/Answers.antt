use Rattle.statement_lines.proofs.Names.{◌≡◌, ◌∙◌, ap, map, [], ◌∷◌, Some, Records, lines_from, numbers_from, records_of, rows_of, rows_by, text_of}
use Rattle.statement_csv.specs.Headers.{header}
use Rattle.statement_lines.proofs.RowsWritten.{adds-more}
use Rattle.statement_lines.proofs.writing.write_statement.Goals as goal

pub returns : goal.returns
unfolding records_of
returns c outcome_of given =
    let rows = rows_of c.args.statement.now in
    let same = c.records.view_is ∙ c.requires in
    let numbers : c.deref.result.now ≡ numbers_from 1 rows =
    c.deref.ensures.value ∙ ap (λ (r : Records). r.numbers) same in
    let found : c.args.outcomes.now ≡ map outcome_of (lines_from 1 rows) =
    given ∙ ap (λ (r : Records). map outcome_of r.lines) c.requires in
    let both =
    adds-more (λ bytes. Some bytes.items) c.new_writer-writer.result c.write_header.new.writer c.write_rows.new.writer
    (header ∷ []) (rows_by outcome_of 1 rows) c.in_ok-write_header.ensures
    (c.in_ok-write_rows.ensures outcome_of numbers found) in
    c.text_in.ensures (text_of (header ∷ rows_by outcome_of 1 rows)) (both [] c.new_writer-writer.ensures)
