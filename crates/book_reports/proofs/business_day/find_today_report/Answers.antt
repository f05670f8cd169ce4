use Rattle.book_reports.proofs.Names.{◌≡◌, [], ◌++◌, fold, ap, rules, ◌∙◌, Firm, no_journal, trial_kept, with_moved, with_trial_own, with_trial_row, none_retained, with_row_retained, own_card_text, exception_line, exceptions_text, journal_text, retention_text, trial_text, own_card_report, arith, ints, nat_tests}
use Rattle.trust_reports.specs.TextsOfActs.{trail_text}
use Rattle.book_reports.specs.FirmTrails.{with_act_told, with_dismissal_told, with_matter_there}
use Rattle.book_reports.proofs.FirmTrails.{trail-told}
use Rattle.book_reports.proofs.ReadCalls.{both-handed, handed-before, read-then}
use Rattle.book_reports.proofs.ReportTexts.{exceptions-told, journal-told, retention-told, trial-told}
use Rattle.book_reports.proofs.business_day.find_today_report.Goals as goal

pub returns-in_ok-each_exception-in-Exceptions-clause-told : goal.returns-in_ok-each_exception-in-Exceptions-clause-told
returns-in_ok-each_exception-in-Exceptions-clause-told g c =
    grind (arith, ints, nat_tests, fold, exception_line, exceptions_text, exceptions-told)

pub returns-in_ok-trial_text-in-Trial-clause-told : goal.returns-in_ok-trial_text-in-Trial-clause-told
returns-in_ok-trial_text-in-Trial-clause-told g c =
    λ clean stands.
    let B = g.B.Book in
    let firm : Firm = (B.seen c.args.book.now).firm in
    let first = c.in_ok-each_row-in-Trial.ensures in
    let second = c.in_ok-each_firm_line-in-Trial.ensures in
    let handed = both-handed (λ (f : Firm). f.rows) (λ (f : Firm). f.firm_lines) first.read first.handed second.read second.handed clean stands in
    let rows = handed.0 in
    let lines = handed.1 in
    let began = c.of-trial.ensures ∙ c.new.ensures in
    let kept : c.into_sink.result ≡ trial_kept firm =
    c.into_sink.ensures ∙ lines.all ∙ ap (λ s. fold with_trial_own s firm.firm_lines) (rows.all ∙ ap (λ s. fold with_trial_row s firm.rows) began) in
    let balance = c.finish-balance.ensures in
    let written : c.trial_text.new.out.items ≡ trial_text c.args.today c.finish-balance.result.lines.items c.finish-balance.result.own c.finish-balance.result.total = search rules in
    let told =
    written
    ∙ ((λ i. trial_text c.args.today (balance.lines i) (balance.own i) (balance.total i))
    ∙ trial-told c.args.today firm c.into_sink.result ((B.seen c.args.book.now).sound stands) rows.countable lines.countable kept) in
    rw c.in-Trial.is told

pub returns-in_ok-journal_text-in-Journal-clause-told : goal.returns-in_ok-journal_text-in-Journal-clause-told
returns-in_ok-journal_text-in-Journal-clause-told g c =
    grind (arith, ints, nat_tests, fold, with_moved, no_journal, journal_text, journal-told)

pub returns-in_ok-retention_text-in-Retention-clause-told : goal.returns-in_ok-retention_text-in-Retention-clause-told
returns-in_ok-retention_text-in-Retention-clause-told g c =
    grind (arith, ints, nat_tests, fold, with_row_retained, none_retained, retention_text, retention-told)

pub returns-in_ok-own_card_text-in-OwnLedger-clause-told : goal.returns-in_ok-own_card_text-in-OwnLedger-clause-told
unfolding own_card_report
returns-in_ok-own_card_text-in-OwnLedger-clause-told g c = grind (arith, ints, nat_tests, own_card_text)

pub returns-in_ok-extend_from_slice-in-Trail-clause-told : goal.returns-in_ok-extend_from_slice-in-Trail-clause-told
returns-in_ok-extend_from_slice-in-Trail-clause-told g c =
    λ clean stands.
    let B = g.B.Book in
    let firm : Firm = (B.seen c.args.book.now).firm in
    let first = c.in_ok-each_act-in-Trail.ensures in
    let second = c.in_ok-each_row-in-Trail.ensures in
    let third = c.in_ok-each_dismissal-in-Trail.ensures in
    let served = third.read.was_clean clean in
    let handed = both-handed (λ (f : Firm). f.acts) (λ (f : Firm). f.rows) first.read first.handed second.read second.handed served stands in
    let both = read-then first.read second.read in
    let behind = handed-before (λ (f : Firm). f.dismissals) (both.same served stands) (third.handed clean (both.still_stands served stands)) in
    let kept =
    behind.all
    ∙ ap (λ s. fold with_dismissal_told s firm.dismissals) (handed.1.all
    ∙ ap (λ s. fold with_matter_there s firm.rows) (handed.0.all
    ∙ ap (λ s. fold with_act_told s firm.acts) c.new-trail.ensures)) in
    let written : c.extend_from_slice.new.self.items ≡ trail_text c.args.today c.in_ok-is_late-in-Trail.is_late [] [] ++ c.finish-in-Trail.result.items = search rules in
    rw c.in-Trail.is (trail-told c.args.today firm c.each_dismissal.new.sink c.in_ok-is_late-in-Trail.is_late _ kept c.in_ok-is_late-in-Trail.ensures (written ∙ ap (λ lines. trail_text c.args.today c.in_ok-is_late-in-Trail.is_late [] [] ++ lines) c.finish-in-Trail.ensures))
