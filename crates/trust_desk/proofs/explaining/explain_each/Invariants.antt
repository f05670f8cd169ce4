use Rattle.trust_desk.proofs.Names.{Result, Ok, StoreFault, IsRead}
use Rattle.trust_desk.proofs.explaining.explain_each.Given as goal

-- so far the book was only read
abbrev pub invariant-loop-line : goal.invariant-loop-line
invariant-loop-line g l =
    let B = g.B.Book in
    let done : Result Unit StoreFault = Ok tt in
    record {
      next : (goal.iterator-loop-line g).can_next l.line-iterator;
      finite : (goal.iterator-loop-line g).is_finite l.line-iterator;
      read : ((B.seen l.fn.book).sure → (B.seen l.fn.book).clean) → IsRead done (B.seen l.fn.book) (B.seen l.book);
    }
