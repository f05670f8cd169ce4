use Rattle.book_reports.proofs.Names.{refl}
use Rattle.book_reports.proofs.DayReports.{disbursements-told}
use Rattle.book_reports.proofs.day_reports.append_disbursements.Goals as goal

pub returns-clause-told : goal.returns-clause-told
returns-clause-told g c =
    disbursements-told (g.B.Book.seen c.args.book.now) (g.B.Book.seen c.read_named.new.book) c.args.period _ c.args.text.now.items c.disbursements_text.new.out.items c.in_ok-named.ensures.told refl refl c.in_ok-disbursements_text.ensures.ok
