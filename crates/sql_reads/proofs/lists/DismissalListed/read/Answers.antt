use Rattle.sql_tables.specs.Given.{act_given}
use Rattle.sql_reads.proofs.ActsRead.{any_dismissal_read}
use Rattle.sql_reads.proofs.lists.DismissalListed.read.Goals as goal

pub returns : goal.returns
returns c =
    any_dismissal_read (act_given c.in_ok-act_in.field-0) c.args.row.now c.dismissal_of.result
    c.dismissal_of.ensures.ok c.dismissal_of.ensures.form c.in_ok-act_in.ensures.ok
