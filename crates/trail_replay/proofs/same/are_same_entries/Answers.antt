use Rattle.std.proofs.Common.{List, ap, arith, length, sym, ◌<◌, ◌∙◌, ◌≡◌}
use Rattle.std.proofs.lemmas.Bool.{false≢true}
use Rattle.std.proofs.lemmas.List.{get_or-map, length-map, take_more_same}
use Rattle.std.specs.Prelude.{get_or}
use Rattle.matter_parts.specs.Parts.{entries_kept}
use Rattle.matter_parts.specs.declared.kept.Kept.{Kept}
use Rattle.matter_rows.specs.declared.entry.Entry.{Entry}
use Rattle.trail_replay.proofs.same.are_same_entries.Goals as goal

pub loop-place-preserved : goal.loop-place-preserved
loop-place-preserved c =
    let kept = c.args.kept.now in
    let others = c.args.others.now in
    let place = c.loop-place.place in
    let one = c.index-kept-place.result in
    let other = c.index-others-place.result in
    let f : Kept → Entry = λ k. k.entry in
    let within : place < length others = omega (arith, c.loop-place.invariant.long) in
    let first : place < length (entries_kept kept) = omega (arith, length-map kept f, c.loop-place-test.true) in
    let second : place < length (entries_kept others) = omega (arith, length-map others f, within) in
    let same : one.entry ≡ (get_or others place other).entry = c.is_same_entry.ensures.0 c.if-not-is_same_entry.false in
    record {
      long = c.loop-place.invariant.long;
      same =
          take_more_same (entries_kept kept) (entries_kept others) place one.entry first second
          c.loop-place.invariant.same
          (get_or-map f kept place one one.entry c.loop-place-test.true
          ∙ (ap f (sym c.index-kept-place.is)
          ∙ (same ∙ sym (get_or-map f others place other one.entry within))));
    }

pub returns-then-not-is_same_entry : goal.returns-then-not-is_same_entry
returns-then-not-is_same_entry c =
    let kept = c.args.kept.now in
    let others = c.args.others.now in
    let place = c.loop-place.place in
    let one = c.index-kept-place.result in
    let other = c.index-others-place.result in
    let f : Kept → Entry = λ k. k.entry in
    let within : place < length others = omega (arith, c.loop-place.invariant.long) in (
      λ so. absurd (false≢true so),
      λ all.
          let same : one.entry ≡ (get_or others place other).entry =
          ap f c.index-kept-place.is
          ∙ (sym (get_or-map f kept place one one.entry c.loop-place-test.true)
          ∙ (ap (λ (es : List Entry). get_or es place one.entry) all ∙ get_or-map f others place other one.entry within)) in
          absurd (false≢true (sym c.if-not-is_same_entry.true ∙ c.is_same_entry.ensures.1 same)),
    )
