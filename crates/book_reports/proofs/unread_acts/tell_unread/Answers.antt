use Rattle.book_reports.proofs.Names.{arith, ints, nat_tests, counted}
use Rattle.book_reports.proofs.ReadCalls.{read-then}
use Rattle.book_reports.proofs.unread_acts.tell_unread.Goals as goal

pub returns : goal.returns
returns g c =
    let all = read-then c.in_ok-acts.ensures.read c.in_ok-dismissals.ensures.read in
    grind (arith, ints, nat_tests, counted)
