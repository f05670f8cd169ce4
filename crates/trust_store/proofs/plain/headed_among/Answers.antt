use Rattle.trust_store.proofs.Names.{◌≡◌, ◌++◌, ◌+◌, arith, ap, append_assoc, drop, ◌∙◌, headed, joined, pairs, rows_kept, ints, nat_tests}
use Rattle.trust_store.proofs.Headed.{headed-append, headed-pairs, number_if}
use Rattle.trust_store.proofs.Sinks.{joined_from}
use Rattle.trust_store.proofs.plain.headed_among.Goals as goal

pub loop-k-preserved : goal.loop-k-preserved
loop-k-preserved c =
    let k = c.k-item.result in
    let rest = headed (joined (drop (c.loop-k.k-index + 1) c.args.kept.now)) in
    let from : headed (joined (drop c.loop-k.k-index c.args.kept.now)) ≡ number_if k.number k.matter.head ++ rest =
    ap headed (joined_from c.loop-k.k-index c.args.kept.now k (omega arith) c.k-item.is)
    ∙ (headed-append (pairs k.number (rows_kept k.matter)) (joined (drop (c.loop-k.k-index + 1) c.args.kept.now))
    ∙ ap (λ ms. ms ++ rest) (headed-pairs k.number (rows_kept k.matter))) in
    grind (arith, ints, nat_tests, append_assoc)
