use Rattle.statement_lines.proofs.Names.{fields_of, arith, ints, nat_tests}
use Rattle.statement_lines.proofs.RowsWritten.{holds-more}
use Rattle.statement_lines.proofs.writing.write_same.Goals as goal

pub returns : goal.returns
returns g c = grind (arith, ints, nat_tests, holds-more, fields_of)
