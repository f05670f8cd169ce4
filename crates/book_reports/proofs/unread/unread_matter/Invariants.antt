use Rattle.book_reports.specs.Checking.{AreReads}
use Rattle.book_reports.proofs.unread.unread_matter.Given as goal

-- so far the book was only read
abbrev pub invariant-loop-matter : goal.invariant-loop-matter
invariant-loop-matter g l =
    let B = g.B.Book in
    AreReads (B.seen l.fn.book) (B.seen l.book)
