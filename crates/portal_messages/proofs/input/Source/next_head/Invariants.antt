use Rattle.portal_messages.proofs.Names.{◌≡◌, ◌≤◌, length, Keeps, unread}
use Rattle.portal_messages.proofs.input.Source.next_head.Given as goal

abbrev pub invariant-loop : goal.invariant-loop
invariant-loop g l = record {
  turns : l.counter ≤ 8193;
  grown : l.counter ≤ length l.self.buffer.items;
  unread : Keeps (unread (g.R.Read.remaining) l.initial.self) (unread (g.R.Read.remaining) l.self);
  room : length l.spans ≡ 64;
}
