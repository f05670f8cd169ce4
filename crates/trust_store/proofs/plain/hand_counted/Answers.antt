use Rattle.trust_store.proofs.Names.{arith, on_ok_weaker, joined}
use Rattle.trust_store.proofs.KeptMatters.{joined-ranged}
use Rattle.firm_rows.proofs.Handed.{begun}
use Rattle.trust_store.proofs.plain.hand_counted.Goals as goal

pub returns-in-Some : goal.returns-in-Some
returns-in-Some g c = grind (arith, joined, joined-ranged, on_ok_weaker)

pub returns-in-None : goal.returns-in-None
returns-in-None g c =
    let rows = joined c.args.kept.now in
    record { all = tt; some = (rows, begun g.S.MatterRowSink.taken c.args.sink.now rows); countable = tt }
