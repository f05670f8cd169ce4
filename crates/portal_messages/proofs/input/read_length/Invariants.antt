use Rattle.portal_messages.proofs.Names.{◌≡◌, ◌<◌, ◌^◌, drop, list_all}
use Rattle.std.specs.Char.{is_ascii_digit}
use Rattle.std.specs.Str.Parse.{digits_value, digits_value_after}
use Rattle.portal_messages.proofs.input.read_length.Given as goal

abbrev pub invariant-loop-digit : goal.invariant-loop-digit
invariant-loop-digit l = record {
  below : l.value < 10 ^ l.digit-index;
  digits : list_all is_ascii_digit (drop l.digit-index l.text) ≡ list_all is_ascii_digit l.text;
  number : digits_value_after 10 l.value (drop l.digit-index l.text) ≡ digits_value 10 l.text;
}
