use Rattle.byte_streams.proofs.Names.{◌≤◌, length, take, Appends}
use Rattle.byte_streams.proofs.output.send.Given as goal

abbrev pub invariant-loop : goal.invariant-loop
invariant-loop g l = record {
  in_range : l.done ≤ length l.text;
  count : l.counter ≤ l.done;
  bytes : Appends (g.W.Write.contents l.initial.writer) (g.W.Write.contents l.writer) (take l.done l.text);
}
