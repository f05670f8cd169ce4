use Rattle.firm_rows.proofs.Names.{arith}
use Rattle.firm_rows.proofs.Handed.{next_handed}
use Rattle.firm_rows.proofs.handing.hand.Goals as goal

pub loop-row-preserved : goal.loop-row-preserved
loop-row-preserved g c =
    next_handed g.S.RowSink.taken g.T.Countable.IsInRange c.args.sink.now c.args.rows.now c.loop-row.row-index c.row-item.result c.loop-row.sink c.take.new.self
    c.loop-row.invariant (omega arith) c.row-item.is c.in_ok-take.ensures.ok c.show_range.ensures
