use Rattle.json_bodies.proofs.Names.{◌++◌, ◌∙◌, ap, arith, drop, length, sym}
use Rattle.std.specs.Prelude.{◌+◌, ◌<◌}
use Rattle.matter_rows.specs.Balances.{left_of}
use Rattle.matter_rows.proofs.Tested.{rest-at}
use Rattle.json_bodies.proofs.EntryFacts.{passed, waited, waiting_rest, whole-place}
use Rattle.json_bodies.proofs.listed.write_waiting.Goals as goal
use Rattle.json_bodies.proofs.listed.write_waiting.Goals.{then-waits+in_ok-write_waiting_entry, else-waits}

pub loop-one-preserved : goal.loop-one-preserved
loop-one-preserved c =
    let ks = c.kept-kept.result.now in
    let i = c.loop-one.one-index in
    let k = c.one-item.result in
    let inside : i < length ks = omega arith in
    let rest = rest-at ks i k inside c.one-item.is in
    elim c.if-waits.branch [
      | then-waits+in_ok-write_waiting_entry w ↦ record {
        before = ap (λ o. o.before) w.out-is ∙ w.in_ok-write_waiting_entry.ensures.before ∙ c.loop-one.invariant.before;
        tokens = λ rows whole.
            let place = whole-place c.args.matter.now rows ks i k whole c.kept-kept.ensures inside c.one-item.is in
            let left = place.left ∙ ap (λ j. left_of rows.entries j k.entry) (sym place.number) in
            waited c.args.no rows (i + 1) k (drop i ks) (drop (i + 1) ks) c.loop-one.out.tokens c.if-waits.out.tokens _
            (sym c.waits.ensures ∙ w.if-waits.true) place.number rest
            (ap (λ o. o.tokens) w.out-is ∙ w.in_ok-write_waiting_entry.ensures.tokens rows whole left)
            (c.loop-one.invariant.tokens rows whole);
      }
      | else-waits w ↦ record {
        before = ap (λ o. o.before) w.out-is ∙ c.loop-one.invariant.before;
        tokens = λ rows whole.
            ap (λ o. o.tokens ++ waiting_rest c.args.no rows (i + 1 + 1) (drop (i + 1) ks)) w.out-is
            ∙ passed c.args.no rows (i + 1) k (drop i ks) (drop (i + 1) ks) c.loop-one.out.tokens _
            (sym c.waits.ensures ∙ w.if-waits.false) rest
            (c.loop-one.invariant.tokens rows whole);
      }
    ]
