use Rattle.std.proofs.Common.{◌≡◌, ◌<◌, length, sym, ◌∙◌, arith}
use Rattle.std.proofs.lemmas.List.{get_or_default, take_more_same}
use Rattle.trail_replay.proofs.same.are_same_seats.Goals as goal

pub loop-place-preserved : goal.loop-place-preserved
loop-place-preserved c =
    let seats = c.args.seats.now in
    let others = c.args.others.now in
    let place = c.loop-place.place in
    let one = c.index-seats-place.result in
    let other = c.index-others-place.result in
    let within : place < length others = omega (arith, c.loop-place.invariant.long) in
    let same : one ≡ other = c.is_same_seat.ensures.0 c.if-not-is_same_seat.false in
    record {
      long = c.loop-place.invariant.long;
      same =
          take_more_same seats others place one c.loop-place-test.true within c.loop-place.invariant.same
          (sym c.index-seats-place.is ∙ (same ∙ (c.index-others-place.is ∙ get_or_default others place other one within)));
    }
