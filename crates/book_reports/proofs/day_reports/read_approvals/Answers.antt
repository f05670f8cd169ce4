use Rattle.book_reports.proofs.Names.{fold, ap, ◌∙◌, Firm, arith, ints, nat_tests, counted}
use Rattle.firm_periods.specs.Approvals.{with_issued_row}
use Rattle.book_reports.proofs.ReadCalls.{handed-before, read-then}
use Rattle.book_reports.proofs.day_reports.read_approvals.Goals as goal

pub returns-clause-told : goal.returns-clause-told
returns-clause-told g c =
    λ clean stands.
    let B = g.B.Book in
    let firm : Firm = (B.seen c.args.book.now).firm in
    let first = c.in_ok-read.ensures in
    let second = c.in_ok-each_row.ensures in
    let served = second.read.was_clean clean in
    let acts = first.told served stands in
    let rows = handed-before (λ (f : Firm). f.rows) (first.read.same served stands) (second.handed clean (first.read.still_stands served stands)) in
    record {
      approvals = rows.all ∙ ap (λ s. fold with_issued_row s firm.rows) acts.acts;
      unread = acts.unread;
    }

pub returns-clause-read : goal.returns-clause-read
returns-clause-read g c =
    let all = read-then c.in_ok-read.ensures.read c.in_ok-each_row.ensures.read in
    grind (arith, ints, nat_tests, counted)
