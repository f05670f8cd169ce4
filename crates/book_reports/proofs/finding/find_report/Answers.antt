use Rattle.book_reports.proofs.Names.{◌∙◌, ◌++◌, ap}
use Rattle.book_reports.specs.ReportTexts.{report_text}
use Rattle.book_reports.specs.declared.report.Report.TheVariants.{AsOf, Within}
use Rattle.book_reports.proofs.finding.find_report.Goals as goal

pub returns-in_ok-limits-in-AsOf-clause-told : goal.returns-in_ok-limits-in-AsOf-clause-told
returns-in_ok-limits-in-AsOf-clause-told g c =
    λ clean stands.
    let firm = (g.B.Book.seen c.args.book.now).firm in
    let is = c.in_ok-limits-in-AsOf.ensures.told clean stands c.args.today in
    rw c.in-AsOf.is
    (record {
      limits = λ i. record { lacks_statement = is.stated i; is_purged = is.cut i };
      text = is.text ∙ ap (λ t. t ++ report_text (AsOf c.in-AsOf.report c.in-AsOf.as_of) c.args.today firm) c.new-text.ensures.items;
    })

pub returns-in_ok-limits-in-Within-clause-told : goal.returns-in_ok-limits-in-Within-clause-told
returns-in_ok-limits-in-Within-clause-told g c =
    λ clean stands.
    let firm = (g.B.Book.seen c.args.book.now).firm in
    let is = c.in_ok-limits-in-Within.ensures.told clean stands c.args.today in
    rw c.in-Within.is
    (record {
      limits = λ i. record { lacks_statement = is.stated i; is_purged = is.cut i };
      text = is.text ∙ ap (λ t. t ++ report_text (Within c.in-Within.report c.in-Within.period) c.args.today firm) c.new-text.ensures.items;
    })
