use Rattle.sql_reads.proofs.Parts.{parts_whole}
use Rattle.sql_reads.proofs.laws.parts_are_whole.Goals as goal

pub returns : goal.returns
returns c = parts_whole
