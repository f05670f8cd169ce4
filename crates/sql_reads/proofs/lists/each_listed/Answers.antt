use Rattle.sql_reads.proofs.Names.{sym, subst, state, firm_in, AreHanded}
use Rattle.sql_reads.proofs.Handed.{all_left, handed}
use Rattle.sql_reads.proofs.lists.each_listed.Goals as goal

pub returns-clause-handed : goal.returns-clause-handed
returns-clause-handed g c l clean stands =
    let list = g.T.Listed.list (firm_in l (state g.S.Store c.args.conn.now).now.trees) in
    subst (λ r. AreHanded g.K.RowSink.taken g.T.Countable.IsInRange list r c.args.sink.now c.hand_rows.new.sink)
    (sym c.and.ensures)
    (handed g.K.RowSink.taken g.T.Listed.shown g.T.Countable.IsInRange list (c.select.ensures.list l c.args.conn.now c.hand_rows.new.conn stands)
    c.hand_rows.result _ _ (c.hand_rows.ensures.handed clean))

pub returns-clause-left : goal.returns-clause-left
returns-clause-left g c = all_left _ _ _ c.hand_rows.ensures.left _ c.and.ensures
