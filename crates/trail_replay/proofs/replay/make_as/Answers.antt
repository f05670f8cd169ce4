use Rattle.std.proofs.Common.{arith, Some, ◌≡◌}
use Rattle.matter_parts.specs.Audit.{rows_kept}
use Rattle.trail_replay.proofs.Making.{made-as}
use Rattle.trail_replay.proofs.replay.make_as.Goals as goal
use Rattle.trail_replay.proofs.replay.make_as.Goals.{in-None, in-Some}

pub returns-in_ok-apply : goal.returns-in_ok-apply
returns-in_ok-apply c =
    let old = c.args.matter.now in
    let remembered : c.args.change.now.act ≡ Some c.args.act.now = elim c.match-act.branch [
      | in-None w ↦ absurd (grind (arith))
      | in-Some w ↦ grind (arith)
    ] in
    made-as old c.apply.new.self c.args.change.now c.args.act.now c.match-act.is_it c.if-is_it.true remembered
    c.requires.change
    (c.in_ok-apply.ensures.whole (rows_kept old) c.requires.good.sound c.requires.good.whole c.requires.change)
