use Rattle.book_reports.proofs.Names.{◌≡◌, fold, ap, ◌∙◌, Firm, arith, ints, nat_tests, counted}
use Rattle.firm_periods.specs.Named.{named_kept, with_named_own, with_named_row}
use Rattle.book_reports.proofs.ReadCalls.{both-handed, read-then}
use Rattle.book_reports.proofs.DayReports.{named-listed}
use Rattle.book_reports.proofs.day_reports.read_named.Goals as goal

pub returns-clause-told : goal.returns-clause-told
returns-clause-told g c =
    λ clean stands.
    let B = g.B.Book in
    let firm : Firm = (B.seen c.args.book.now).firm in
    let first = c.in_ok-each_row.ensures in
    let second = c.in_ok-each_firm_line.ensures in
    let handed = both-handed (λ (f : Firm). f.rows) (λ (f : Firm). f.firm_lines) first.read first.handed second.read second.handed clean stands in
    let rows = handed.0 in
    let lines = handed.1 in
    let kept : c.each_firm_line.new.sink ≡ named_kept c.args.pick firm =
    lines.all ∙ ap (λ s. fold with_named_own s firm.firm_lines) (rows.all ∙ ap (λ s. fold with_named_row s firm.rows) c.new-moves.ensures) in
    let list = c.in_ok-list.ensures in
    named-listed c.args.pick firm c.each_firm_line.new.sink _ rows.countable lines.countable kept list.moves list.total c.is_period_purged-is_purged.ensures

pub returns-clause-read : goal.returns-clause-read
returns-clause-read g c =
    let all = read-then c.in_ok-each_row.ensures.read c.in_ok-each_firm_line.ensures.read in
    grind (arith, ints, nat_tests, counted)
