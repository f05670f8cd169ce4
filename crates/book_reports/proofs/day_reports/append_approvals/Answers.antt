use Rattle.book_reports.proofs.Names.{rules, ◌≡◌, ◌++◌, refl}
use Rattle.trust_reports.specs.TextsOfActs.{approvals_text}
use Rattle.book_reports.proofs.DayReports.{approvals-told}
use Rattle.book_reports.proofs.day_reports.append_approvals.Goals as goal

pub returns-clause-told : goal.returns-clause-told
returns-clause-told g c =
    let written : c.approvals_text.new.out.items ≡ c.args.text.now.items ++ approvals_text c.args.period c.in_ok-lines.lines.items c.in_ok-read.read.unread.items = search rules in
    approvals-told (g.B.Book.seen c.args.book.now) (g.B.Book.seen c.read_approvals.new.book) c.args.period c.in_ok-lines.lines.items _ c.args.text.now.items c.approvals_text.new.out.items
    c.in_ok-read.ensures.told c.in_ok-lines.ensures refl c.is_period_purged-is_purged.ensures written
