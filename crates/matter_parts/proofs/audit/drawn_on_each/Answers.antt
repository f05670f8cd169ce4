use Rattle.matter_parts.proofs.Names.{arith, ints, fits}
use Rattle.matter_parts.proofs.Drawn.{drawn-all, drawn-more, drawn-none, drawn-same, read-sum}
use Rattle.matter_parts.proofs.audit.drawn_on_each.Goals.{in-Some, in_default}
use Rattle.matter_parts.proofs.audit.drawn_on_each.Goals as goal

pub loop-entry-init : goal.loop-entry-init
loop-entry-init c = drawn-none c.args.entries.now c.in_ok-drawn.drawn.items (c.in_ok-drawn.ensures.items_if_clones_equal (λ y h. h))

pub overflow_add-more : goal.overflow_add-more
overflow_add-more c =
    let read = read-sum c.args.entries.now c.loop-entry.entry-index c.loop-entry.drawn.items c.in-Some.place c.index.result.now c.loop-entry.invariant c.in-Some.ensures.some.0 c.index.ensures in
    let test = c.loop-entry-test.true in
    let few = c.requires in
    fits c.index.result.now c.draw.result c.loop-entry.entry-index read.1 c.draw.ensures.small (omega (arith, test, few))

pub loop-entry-preserved : goal.loop-entry-preserved
loop-entry-preserved c = elim c.match-place_drawn.branch [
  | in-Some w ↦
      let read = read-sum c.args.entries.now c.loop-entry.entry-index c.loop-entry.drawn.items w.in-Some.place
      w.index.result.now c.loop-entry.invariant w.in-Some.ensures.some.0 w.index.ensures in
      let own = w.draw.ensures in
      rw w.drawn-is
      (drawn-more c.args.entries.now c.loop-entry.entry-index c.loop-entry.drawn.items c.entry-item.result
      w.in-Some.place _ c.loop-entry.invariant c.loop-entry-test.true c.entry-item.is w.in-Some.ensures.some.0
      w.in-Some.ensures.some.1
      (rw own.is at own.small) (omega (arith, ints, read, own, c.loop-entry-test.true, c.requires)))
  | in_default w ↦
      rw w.drawn-is (drawn-same c.args.entries.now c.loop-entry.entry-index c.loop-entry.drawn.items c.entry-item.result
      c.loop-entry.invariant c.loop-entry-test.true c.entry-item.is w.in_default.ensures.none)
]

pub returns : goal.returns
returns c = drawn-all c.args.entries.now c.loop-entry.entry-index c.loop-entry.drawn.items c.loop-entry.invariant c.loop-entry-test.false (omega arith) c.requires
