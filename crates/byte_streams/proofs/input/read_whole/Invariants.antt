use Rattle.byte_streams.proofs.Names.{◌≤◌, length, Consumes}
use Rattle.byte_streams.proofs.input.read_whole.Given as goal

abbrev pub invariant-loop : goal.invariant-loop
invariant-loop g l = record {
  in_range : length l.bytes.items ≤ l.limit;
  count : l.counter ≤ length l.bytes.items;
  bytes : Consumes (g.R.Read.remaining l.initial.reader) (g.R.Read.remaining l.reader) l.bytes.items;
}
