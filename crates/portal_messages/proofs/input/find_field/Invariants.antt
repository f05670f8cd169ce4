use Rattle.portal_messages.proofs.Names.{◌≡◌, ◌≤◌, length, values_of, pairs_from}
use Rattle.portal_messages.proofs.input.find_field.Given as goal

abbrev pub invariant-loop-i : goal.invariant-loop-i
invariant-loop-i l = record {
  ahead : l.i ≤ length l.fields;
  none : values_of l.name (pairs_from l.bytes l.fields l.from) ≡ values_of l.name (pairs_from l.bytes l.fields l.i);
}
