use Rattle.book_reports.proofs.month.append_month.Goals as goal

pub returns-clause-told : goal.returns-clause-told
returns-clause-told g c =
    λ clean stands.
    let before = g.B.Book.seen c.args.book.now in
    c.in_ok-push_month.ensures before.firm (before.sound stands) (c.in_ok-read.ensures.told clean stands)
