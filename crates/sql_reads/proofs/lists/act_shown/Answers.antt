use Rattle.sql_tables.specs.Given.{act_given}
use Rattle.sql_reads.proofs.ActsRead.{any_read, none_read}
use Rattle.sql_reads.proofs.lists.act_shown.Goals as goal

pub returns-clause-ok : goal.returns-clause-ok
returns-clause-ok c =
    any_read (act_given c.in_ok-act_in.field-0) c.args.row.now c.act_of.result c.act_of.ensures.ok c.act_of.ensures.form
    c.in_ok-act_in.ensures.ok

pub returns-clause-none : goal.returns-clause-none
returns-clause-none c =
    none_read (act_given c.in_ok-act_in.field-0) c.args.row.now c.act_of.result c.act_of.ensures.back
    c.in_ok-act_in.ensures.ok
