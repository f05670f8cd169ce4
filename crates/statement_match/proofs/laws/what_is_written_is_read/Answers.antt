use Rattle.statement_match.proofs.ReadBack.{is_imported, reads_back}
use Rattle.statement_match.proofs.laws.what_is_written_is_read.Goals as goal

pub returns : goal.returns
returns c = record { records = reads_back; items = is_imported }
