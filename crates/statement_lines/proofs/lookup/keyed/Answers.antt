use Rattle.statement_lines.proofs.Names.{refl}
use Rattle.statement_lines.proofs.Lookups.{keyed_more}
use Rattle.statement_lines.proofs.lookup.keyed.Goals as goal

pub loop-item-preserved : goal.loop-item-preserved
loop-item-preserved g c = λ key says.
    keyed_more key c.args.items.now c.loop-item.item-index c.loop-item.found.items c.push.new.self.items _
    c.key_of.result c.loop-item-test.true c.item-item.is (says _ _ (record { shown = _; shows = refl; says = record { met = c.key_of.ensures } })) (c.loop-item.invariant key says)
    c.in_ok-push.ensures.items
