use Rattle.sql_reads.proofs.Names.{head_given}
use Rattle.sql_reads.proofs.HeadsRead.{totals_read}
use Rattle.sql_reads.proofs.matter.read_head.Goals as goal

pub returns : goal.returns
returns c x shows =
    totals_read _ (head_given c.in_ok-columns.columns) c.args.row.now c.in_ok-head.head c.in_ok-figures.figures
    c.in_ok-columns.ensures.ok c.in_ok-head.ensures.ok c.in_ok-head.ensures.form c.in_ok-figures.ensures.ok x shows
