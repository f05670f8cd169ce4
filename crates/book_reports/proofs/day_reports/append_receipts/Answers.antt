use Rattle.book_reports.proofs.Names.{refl}
use Rattle.book_reports.proofs.DayReports.{receipts-told}
use Rattle.book_reports.proofs.day_reports.append_receipts.Goals as goal

pub returns-clause-told : goal.returns-clause-told
returns-clause-told g c =
    receipts-told (g.B.Book.seen c.args.book.now) (g.B.Book.seen c.read_named.new.book) c.args.period _ c.args.text.now.items c.receipts_text.new.out.items c.in_ok-named.ensures.told refl refl c.in_ok-receipts_text.ensures.ok
