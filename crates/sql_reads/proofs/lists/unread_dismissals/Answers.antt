use Rattle.sql_reads.proofs.Names.{subst, ◌∙◌, IfOk-weaker, answers, state, dismissal_scan_asks, dismissal_scan_answer, dismissal_scan_selects}
use Rattle.sql_tables.specs.Rows as table
use Rattle.sql_reads.specs.Unread.{AreNoDismissals}
use Rattle.sql_reads.proofs.NoDismissals.{none_told}
use Rattle.sql_reads.proofs.lists.unread_dismissals.Goals as goal

pub rows_of-requires-clause-select : goal.rows_of-requires-clause-select
rows_of-requires-clause-select g c = dismissal_scan_selects

pub returns-clause-whole : goal.returns-clause-whole
returns-clause-whole g c l clean stands =
    let rows = table.dismissals_among (table.acts_in l (state g.S.Store c.args.conn.now).now.trees) in
    let shows = c.deref.ensures.value
    ∙ dismissal_scan_answer l _ stands.tables _
    (answers (dismissal_scan_asks l) _ _ _ stands.tables.schema _ (c.in_ok-rows.ensures.shown clean)) in
    IfOk-weaker c.numbers_of_none.result _ _
    (λ unread read. none_told c.deref.result.now rows shows stands.rows.meant.written.dismissals unread.items read)
    c.numbers_of_none.ensures

pub returns-clause-read : goal.returns-clause-read
returns-clause-read g c clean =
    IfOk-weaker c.numbers_of_none.result _ _
    (λ unread read. (
      c.in_ok-rows.rows.items,
      c.in_ok-rows.ensures.shown clean,
      subst (λ rows. AreNoDismissals 1 rows unread.items) c.deref.ensures.value read,
    )) c.numbers_of_none.ensures
