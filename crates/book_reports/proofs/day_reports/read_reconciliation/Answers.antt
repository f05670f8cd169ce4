use Rattle.book_reports.proofs.Names.{arith, ints, nat_tests, counted}
use Rattle.book_reports.proofs.ReadCalls.{read-then}
use Rattle.book_reports.proofs.ReconciliationAnswers.{rows-kept}
use Rattle.book_reports.proofs.day_reports.read_reconciliation.Goals as goal

pub returns-clause-kept : goal.returns-clause-kept
returns-clause-kept g c =
    λ clean stands. grind (arith, ints, nat_tests, rows-kept)

pub returns-clause-read : goal.returns-clause-read
returns-clause-read g c =
    let rows = c.in_ok-each_row.ensures.read in
    let moved = c.in_ok-each_movement.ensures.read in
    let own = c.in_ok-each_firm_line.ensures.read in
    let left = c.in_ok-each_exception.ensures.read in
    let balances = c.in_ok-each_balance.ensures.read in
    let all = read-then rows (read-then moved (read-then own (read-then left balances))) in
    grind (arith, ints, nat_tests, counted)
