use Rattle.std.proofs.Common.{ap, refl}
use Rattle.std.specs.Prelude.{Err, Ok}
use Rattle.matter_parts.specs.Audit.{rows_kept}
use Rattle.trail_replay.proofs.Making.{decides-same, entry-low, holds-line, if-ok, missed-line, taken-line}
use Rattle.trust_base.specs.declared.refusal.StoreFault.TheVariants as faults
use Rattle.trust_matter.specs.declared.line_verdict.LineEffect.TheVariants as effect
use Rattle.trust_matter.specs.declared.line_verdict.LineVerdict.TheVariants as verdict
use Rattle.trail_replay.proofs.replay.make_shown.Goals as goal

pub returns-in-Err-Store : goal.returns-in-Err-Store
returns-in-Err-Store c =
    let m = c.args.matter.now in
    absurd (decides-same (rows_kept m) c.args.line.now c.args.act.now.day _ (Err faults.Store) (ap Err c.in-Err-Store.field-0-is) (c.in-Err-Store.ensures.decided (holds-line m c.args.line.now.entry (entry-low c.get-number.result c.args.line.now.entry c.get-number.ensures.value c.get-number.ensures.range) c.requires.good)
    (rows_kept m) c.requires.good.sound c.requires.good.whole.part))

pub make_as-requires-clause-change : goal.make_as-requires-clause-change
make_as-requires-clause-change c =
    let m = c.args.matter.now in
    (decides-same (rows_kept m) c.args.line.now c.args.act.now.day _ (Ok (verdict.Applied c.in-Applied.change)) (ap Ok c.in-Applied.is) (c.in-Ok.ensures.decided (holds-line m c.args.line.now.entry (entry-low c.get-number.result c.args.line.now.entry c.get-number.ensures.value c.get-number.ensures.range) c.requires.good)
    (rows_kept m) c.requires.good.sound c.requires.good.whole.part)).change

pub returns-in-Applied : goal.returns-in-Applied
returns-in-Applied c =
    let m = c.args.matter.now in
    let d = decides-same (rows_kept m) c.args.line.now c.args.act.now.day _ (Ok (verdict.Applied c.in-Applied.change)) (ap Ok c.in-Applied.is) (c.in-Ok.ensures.decided (holds-line m c.args.line.now.entry (entry-low c.get-number.result c.args.line.now.entry c.get-number.ensures.value c.get-number.ensures.range) c.requires.good)
    (rows_kept m) c.requires.good.sound c.requires.good.whole.part) in
    if-ok _ _ c.make_as.result
    (λ is made. taken-line m _ c.args.line.now c.args.act.now.day c.in-Applied.change c.args.act.now is d made)
    c.make_as.ensures

pub returns-in-Repeat : goal.returns-in-Repeat
returns-in-Repeat c =
    let m = c.args.matter.now in
    let d = decides-same (rows_kept m) c.args.line.now c.args.act.now.day _ (Ok verdict.Repeat) (ap Ok c.in-Repeat.is) (c.in-Ok.ensures.decided (holds-line m c.args.line.now.entry (entry-low c.get-number.result c.args.line.now.entry c.get-number.ensures.value c.get-number.ensures.range) c.requires.good)
    (rows_kept m) c.requires.good.sound c.requires.good.whole.part) in
    missed-line m m c.args.line.now c.args.act.now.day c.args.act.now effect.Repeat d refl

pub returns : goal.returns
returns c =
    let m = c.args.matter.now in
    let d = decides-same (rows_kept m) c.args.line.now c.args.act.now.day _ (Ok (verdict.Unmatched c.in-Unmatched.field-0)) (ap Ok c.in-Unmatched.is) (c.in-Ok.ensures.decided (holds-line m c.args.line.now.entry (entry-low c.get-number.result c.args.line.now.entry c.get-number.ensures.value c.get-number.ensures.range) c.requires.good)
    (rows_kept m) c.requires.good.sound c.requires.good.whole.part) in
    missed-line m m c.args.line.now c.args.act.now.day c.args.act.now (effect.Unmatched c.in-Unmatched.field-0) d refl
