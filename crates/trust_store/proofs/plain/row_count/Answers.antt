use Rattle.trust_store.proofs.Names.{arith, ap, drop, length, length-append, pairs, joined, rows_kept, ints, nat_tests}
use Rattle.trust_store.proofs.Sinks.{joined_from}
use Rattle.trust_store.proofs.plain.row_count.Goals as goal

pub loop-k-preserved : goal.loop-k-preserved
loop-k-preserved c =
    let k = c.k-item.result in
    let from = ap length (joined_from c.loop-k.k-index c.args.kept.now k (omega arith) c.k-item.is) in
    grind (arith, ints, nat_tests, length-append, pairs, rows_kept, joined, drop)
