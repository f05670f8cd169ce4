use Rattle.sql_reads.proofs.Names.{head_read_selects}
use Rattle.sql_reads.proofs.matter.refuse_least.Goals as goal

pub rows_of-requires-clause-select : goal.rows_of-requires-clause-select
rows_of-requires-clause-select g c = head_read_selects
