use Rattle.portal_messages.proofs.Names.{◌≤◌, length, Keeps, unread}
use Rattle.portal_messages.proofs.input.Source.fill_to.Given as goal

abbrev pub invariant-loop : goal.invariant-loop
invariant-loop g l = record {
  turns : l.counter ≤ l.size;
  grown : l.counter ≤ length l.self.buffer.items;
  unread : Keeps (unread (g.R.Read.remaining) l.fn.self) (unread (g.R.Read.remaining) l.self);
}
