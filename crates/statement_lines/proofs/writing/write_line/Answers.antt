use Rattle.statement_lines.proofs.writing.write_line.Goals as goal

pub returns-in-AsItIs : goal.returns-in-AsItIs
returns-in-AsItIs g c = rw c.in-AsItIs.is c.write_same.ensures

pub returns-in-Filled : goal.returns-in-Filled
returns-in-Filled g c = rw c.in-Filled.is c.write_named.ensures
