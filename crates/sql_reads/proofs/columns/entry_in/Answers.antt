use Rattle.sql_reads.proofs.Names.{rules}
use Rattle.sql_reads.proofs.Shown.{number_held, text_read}
use Rattle.sql_reads.proofs.columns.entry_in.Goals as goal

pub returns-clause-ok : goal.returns-clause-ok
returns-clause-ok c = search (rules, number_held, text_read) fits 8000
