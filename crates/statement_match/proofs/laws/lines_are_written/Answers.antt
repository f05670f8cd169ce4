use Rattle.statement_match.proofs.LinesWritten.{has_lines_written}
use Rattle.statement_match.proofs.laws.lines_are_written.Goals as goal

pub returns : goal.returns
returns c = has_lines_written
