use Rattle.trust_store.proofs.Names.{drop, HandedOver, acts_in}
use Rattle.trust_store.proofs.plain.hand_acts_of.Given as goal

-- the acts that were handed over, and those that are left
abbrev pub invariant-loop-act : goal.invariant-loop-act
invariant-loop-act g l =
    HandedOver g.S.RowSink.taken l.fn.sink (acts_in l.matter l.acts) (acts_in l.matter (drop l.act-index l.acts)) l.sink
