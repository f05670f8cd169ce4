use Rattle.matter_parts.proofs.Names.{refl, sym, arith, ◌∙◌, false≢true}
use Rattle.matter_parts.proofs.InPlace.{as-tested, from-tested, place-next, place-fails, place-done, read-at}
use Rattle.matter_parts.proofs.audit.are_in_place.Goals as goal

pub loop-place-init : goal.loop-place-init
loop-place-init c = (λ h. h, λ h. h)

pub is_in_place-requires : goal.is_in_place-requires
is_in_place-requires c =
    let few = c.requires.few in
    let at = read-at c.args.entries.now c.args.kept.now c.args.drawn.now c.loop-place.place c.requires.entries c.requires.drawn c.loop-place-test.true in
    record { place = omega (arith, few, at.0); small = at.1 }

pub returns-then-not-is_in_place : goal.returns-then-not-is_in_place
returns-then-not-is_in_place c =
    let at = read-at c.args.entries.now c.args.kept.now c.args.drawn.now c.loop-place.place c.requires.entries c.requires.drawn c.loop-place-test.true in (
      λ h. absurd (false≢true h),
      λ h. absurd (place-fails c.args.entries.now c.args.kept.now c.loop-place.place c.index-kept-place.result c.loop-place.invariant c.loop-place-test.true c.index-kept-place.is
          (λ p. false≢true (sym c.if-not-is_in_place.true ∙ c.is_in_place.ensures.1 (as-tested c.args.entries.now c.args.drawn.now c.loop-place.place c.index-kept-place.result _ c.requires.drawn at.0 at.2 p))) h),
    )

pub loop-place-preserved : goal.loop-place-preserved
loop-place-preserved c =
    let at = read-at c.args.entries.now c.args.kept.now c.args.drawn.now c.loop-place.place c.requires.entries c.requires.drawn c.loop-place-test.true in
    place-next c.args.entries.now c.args.kept.now c.loop-place.place c.index-kept-place.result c.loop-place.invariant c.loop-place-test.true c.index-kept-place.is
    (from-tested c.args.entries.now c.args.drawn.now c.loop-place.place c.index-kept-place.result _ c.requires.drawn at.0 at.2 (c.is_in_place.ensures.0 c.if-not-is_in_place.false))

pub returns : goal.returns
returns c = (λ _. place-done c.args.entries.now c.args.kept.now c.loop-place.place c.loop-place.invariant c.loop-place-test.false, λ _. refl)
