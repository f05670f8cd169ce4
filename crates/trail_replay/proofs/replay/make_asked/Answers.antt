use Rattle.matter_parts.specs.Audit.{rows_kept}
use Rattle.trail_replay.proofs.Making.{holds-ask, if-ok, taken-ask, taken-not}
use Rattle.trail_replay.proofs.replay.make_asked.Goals as goal

pub make_as-requires-clause-change : goal.make_as-requires-clause-change
make_as-requires-clause-change c =
    let m = c.args.matter.now in
    (c.in-Ok.ensures.decided (holds-ask m c.args.ask.now c.requires.good) (rows_kept m) c.requires.good.sound
    c.requires.good.whole.part).change

pub returns-in-Ok : goal.returns-in-Ok
returns-in-Ok c =
    let m = c.args.matter.now in
    let d = c.in-Ok.ensures.decided (holds-ask m c.args.ask.now c.requires.good) (rows_kept m) c.requires.good.sound
    c.requires.good.whole.part in
    if-ok _ _ c.make_as.result
    (λ is made. taken-ask m _ (record { caller = c.args.act.now.caller; ask = c.args.ask.now; day = c.args.act.now.day })
    c.in-Ok.change c.args.act.now is d made)
    c.make_as.ensures

pub returns-in_default : goal.returns-in_default
returns-in_default c =
    let m = c.args.matter.now in
    let d = c.in-Err.ensures.decided (holds-ask m c.args.ask.now c.requires.good) (rows_kept m) c.requires.good.sound
    c.requires.good.whole.part in
    taken-not m m (record { caller = c.args.act.now.caller; ask = c.args.ask.now; day = c.args.act.now.day })
    c.args.act.now c.in-Err.refusal d c.in_default.not-Memory
