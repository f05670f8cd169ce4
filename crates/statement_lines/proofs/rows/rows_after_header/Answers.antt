use Rattle.statement_lines.proofs.Names.{List, ℕ, rules, refl, default_config, records, strip_bom, fields_of, Rows, arith, ints, nat_tests}
use Rattle.statement_lines.proofs.RowsRead.{left-behind, left-none, left-start}
use Rattle.statement_lines.proofs.rows.rows_after_header.Goals as goal

-- what the reader has left before the first record
abbrev all_of : List ℕ → Rows
all_of bytes = records default_config (strip_bom bytes)

pub returns : goal.returns
returns c =
    let from = c.from_reader-reader in
    let first = left-start from.result (strip_bom c.args.statement.now) (search rules) (search rules) (search rules) from.ensures.source from.ensures.state in
    grind (arith, ints, nat_tests, left-behind, all_of)

pub returns-then-not-found : goal.returns-then-not-found
returns-then-not-found c =
    let from = c.from_reader-reader in
    let first = left-start from.result (strip_bom c.args.statement.now) (search rules) (search rules) (search rules) from.ensures.source from.ensures.state in
    let read = rw c.if-not-found.true at (c.in-Ok.ensures.reads first.trim first.ready) in
    let none = left-none from.result c.read_byte_record.new.self (fields_of c.read_byte_record.new.row) (all_of c.args.statement.now) first read in
    rw none refl
