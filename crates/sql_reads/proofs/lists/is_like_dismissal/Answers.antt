use Rattle.sql_tables.specs.Given.{act_given}
use Rattle.sql_reads.proofs.NoDismissals.{like_none}
use Rattle.sql_reads.proofs.lists.is_like_dismissal.Goals as goal

pub returns-in-Ok-clause-no : goal.returns-in-Ok-clause-no
returns-in-Ok-clause-no c unlike =
    like_none (act_given c.in-Ok.columns) c.args.row.now (c.is_dismissal.ensures.no unlike) c.in-Ok.ensures.ok
