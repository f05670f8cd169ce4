use Rattle.byte_streams.proofs.Names.{◌≡◌, ◌<◌, ◌^◌, take, fixed_digits}
use Rattle.byte_streams.proofs.fixed.read_fixed.Given as goal

abbrev pub invariant-loop-digit : goal.invariant-loop-digit
invariant-loop-digit l = record {
  below : l.value < 10 ^ l.digit-index;
  text : fixed_digits l.digit-index l.value ≡ take l.digit-index l.text;
}
