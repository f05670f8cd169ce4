use Rattle.sql_reads.proofs.Names.{subst, ◌∙◌, IfOk-weaker, answers, state, act_scan_asks, act_scan_answer, act_scan_selects}
use Rattle.sql_tables.specs.Rows as table
use Rattle.sql_reads.specs.Unread.{AreRead}
use Rattle.sql_reads.proofs.Readable.{none_handed, none_told}
use Rattle.sql_reads.proofs.lists.each_readable_act.Goals as goal

pub rows_of-requires-clause-select : goal.rows_of-requires-clause-select
rows_of-requires-clause-select g c = act_scan_selects

pub returns-in_err-rows-clause-handed : goal.returns-in_err-rows-clause-handed
returns-in_err-rows-clause-handed g c l clean stands =
    none_handed g.K.RowSink.taken _ c.args.sink.now c.from_residual.result c.from_residual.ensures.0

pub returns-clause-handed : goal.returns-clause-handed
returns-clause-handed g c l clean stands =
    let rows = table.acts_among (table.acts_in l (state g.S.Store c.args.conn.now).now.trees) in
    let shows = c.deref.ensures.value
    ∙ act_scan_answer l _ stands.tables _
    (answers (act_scan_asks l) _ _ _ stands.tables.schema _ (c.in_ok-rows.ensures.shown clean)) in
    c.hand_readable.ensures.handed rows shows stands.rows.meant.written.acts

pub returns-clause-whole : goal.returns-clause-whole
returns-clause-whole g c l clean stands =
    let rows = table.acts_among (table.acts_in l (state g.S.Store c.args.conn.now).now.trees) in
    let shows = c.deref.ensures.value
    ∙ act_scan_answer l _ stands.tables _
    (answers (act_scan_asks l) _ _ _ stands.tables.schema _ (c.in_ok-rows.ensures.shown clean)) in
    IfOk-weaker c.hand_readable.result _ _
    (λ unread read. none_told g.K.RowSink.taken c.deref.result.now rows shows stands.rows.meant.written.acts
    unread.items c.args.sink.now c.hand_readable.new.sink read) c.hand_readable.ensures.read

pub returns-clause-read : goal.returns-clause-read
returns-clause-read g c clean =
    IfOk-weaker c.hand_readable.result _ _
    (λ unread read. (
      c.in_ok-rows.rows.items,
      c.in_ok-rows.ensures.shown clean,
      subst
          (λ rows. AreRead g.K.RowSink.taken 1 rows unread.items c.args.sink.now c.hand_readable.new.sink)
          c.deref.ensures.value read,
    )) c.hand_readable.ensures.read
