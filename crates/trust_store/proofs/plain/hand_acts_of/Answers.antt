use Rattle.trust_store.proofs.Names.{◌≡◌, ◌==◌, [], true, false, subst, ◌+◌, ◌∙◌, arith, drop, HandedOver, nat_tests, acts_in}
use Rattle.std.proofs.lemmas.List.{drop_all}
use Rattle.firm_rows.proofs.Handed.{ended, one_more}
use Rattle.trust_store.proofs.ActsOf.{all_ranged, few_in, other_next, own_next}
use Rattle.trust_store.proofs.plain.hand_acts_of.Goals.{then-get+in_ok-take, else-get}
use Rattle.trust_store.proofs.plain.hand_acts_of.Goals as goal

pub loop-act-preserved : goal.loop-act-preserved
loop-act-preserved g c =
    let step = g.S.RowSink.taken in
    let acts = c.args.acts.now in
    let m = c.args.matter in
    let a = c.act-item.result in
    let i = c.loop-act.act-index in
    elim c.if-get.branch [
      | then-get+in_ok-take w ↦
          let own : (a.matter == m) ≡ true = grind (arith, nat_tests, w.if-get.true) in
          one_more step c.args.sink.now c.loop-act.sink c.if-get.sink (acts_in m acts) a (acts_in m (drop (i + 1) acts))
          (subst (λ xs. HandedOver step c.args.sink.now (acts_in m acts) xs c.loop-act.sink)
          (own_next m i acts a (omega arith) c.act-item.is own) c.loop-act.invariant)
          (w.sink-is ∙ w.in_ok-take.ensures.ok)
      | else-get w ↦
          let other : (a.matter == m) ≡ false = grind (arith, nat_tests, w.if-get.false) in
          rw w.sink-is
          (subst (λ xs. HandedOver step c.args.sink.now (acts_in m acts) xs c.loop-act.sink)
          (other_next m i acts a (omega arith) c.act-item.is other) c.loop-act.invariant)
    ]

pub returns : goal.returns
returns g c =
    let step = g.S.RowSink.taken in
    let acts = c.args.acts.now in
    let m = c.args.matter in
    let done : HandedOver step c.args.sink.now (acts_in m acts) [] c.loop-act.sink =
    subst (λ xs. HandedOver step c.args.sink.now (acts_in m acts) (acts_in m xs) c.loop-act.sink)
    (drop_all c.loop-act.act-index acts (omega arith)) c.loop-act.invariant in
    record {
      all = ended step c.args.sink.now c.loop-act.sink (acts_in m acts) done;
      some = ([], done);
      countable = record { few = omega (arith, few_in m acts); ranged = all_ranged (acts_in m acts) };
    }
