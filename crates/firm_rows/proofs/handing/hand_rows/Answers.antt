use Rattle.firm_rows.proofs.Names.{arith}
use Rattle.std.proofs.lemmas.Result.{err_from_is_err_and}
use Rattle.firm_rows.specs.Countable.{IsRowInRange}
use Rattle.firm_rows.specs.Handing.{row_pair}
use Rattle.firm_rows.proofs.Handed.{begun, next_handed, some-mapped, every-mapped}
use Rattle.firm_rows.proofs.handing.hand_rows.Goals as goal

pub loop-row-init : goal.loop-row-init
loop-row-init g c = record { handed = begun (λ s r. g.S.MatterRowSink.taken s (row_pair r)) c.args.sink.now c.args.rows.now; ranged = tt }

pub returns-in_err-hand_row : goal.returns-in_err-hand_row
returns-in_err-hand_row g c =
    let p = err_from_is_err_and c.from_residual.result c.from_residual.ensures.1 in
    let same = c.in_err-hand_row.ensures.err in
    rw (p.1, same) (some-mapped row_pair g.S.MatterRowSink.taken IsRowInRange c.args.sink.now c.loop-row.sink c.args.rows.now c.loop-row.row-index p.0 c.loop-row.invariant)

pub loop-row-preserved : goal.loop-row-preserved
loop-row-preserved g c =
    next_handed (λ s r. g.S.MatterRowSink.taken s (row_pair r)) (λ r. IsRowInRange (row_pair r)) c.args.sink.now c.args.rows.now c.loop-row.row-index c.row-item.result c.loop-row.sink c.hand_row.new.sink
    c.loop-row.invariant (omega arith) c.row-item.is c.in_ok-hand_row.ensures.ok c.hand_row.ensures.range

pub returns : goal.returns
returns g c =
    every-mapped row_pair g.S.MatterRowSink.taken IsRowInRange c.args.sink.now c.loop-row.sink c.args.rows.now c.loop-row.row-index tt
    c.loop-row.invariant (omega arith) (omega arith)
