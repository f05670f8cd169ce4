use Rattle.book_reports.proofs.Names.{refl}
use Rattle.book_reports.proofs.DayReports.{outstanding-told}
use Rattle.book_reports.proofs.day_reports.append_outstanding.Goals as goal

pub returns-clause-told : goal.returns-clause-told
returns-clause-told g c =
    outstanding-told c.args.as_of _ c.args.text.now.items c.outstanding_text.new.out.items
    c.in_ok-transit.ensures.read c.in_ok-transit.ensures.told c.in_ok-out.ensures.read c.in_ok-out.ensures.told
    refl refl c.in_ok-outstanding_text.ensures.ok
