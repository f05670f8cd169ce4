use Rattle.book_reports.proofs.Names.{rules, ◌≡◌, ◌++◌, fold, ap, refl, ◌∙◌, Firm, clients_of, clients_text, with_client_own, with_client_row, arith, ints, nat_tests, counted}
use Rattle.book_reports.proofs.ReadCalls.{both-handed, read-then}
use Rattle.book_reports.proofs.ReportTexts.{clients-listed, clients-told}
use Rattle.book_reports.proofs.day_reports.append_clients.Goals as goal

pub returns-clause-told : goal.returns-clause-told
returns-clause-told g c =
    λ clean stands.
    let B = g.B.Book in
    let firm : Firm = (B.seen c.args.book.now).firm in
    let sound = (B.seen c.args.book.now).sound stands in
    let first = c.in_ok-each_row.ensures in
    let second = c.in_ok-each_firm_line.ensures in
    let handed = both-handed (λ (f : Firm). f.rows) (λ (f : Firm). f.firm_lines) first.read first.handed second.read second.handed clean stands in
    let rows = handed.0 in
    let lines = handed.1 in
    let all = lines.all ∙ ap (λ s. fold with_client_own s firm.firm_lines) (rows.all ∙ ap (λ s. fold with_client_row s firm.rows) c.new-clients.ensures) in
    let kept : c.each_firm_line.new.sink ≡ clients_of c.args.as_of firm =
    clients-listed c.args.as_of firm c.each_firm_line.new.sink sound rows.countable lines.countable all in
    let list = c.finish-list.ensures in
    let written : c.clients_text.new.out.items ≡ c.args.text.now.items ++ clients_text c.args.as_of c.finish-list.result.lines.items c.finish-list.result.own c.finish-list.result.total = search rules in
    let told =
    (λ i. clients_text c.args.as_of (list.lines i) (list.own i) (list.total i))
    ∙ clients-told c.args.as_of firm c.each_firm_line.new.sink sound rows.countable lines.countable kept in
    record {
      stated = refl;
      cut = c.is_day_purged-is_purged.ensures ∙ ap (λ s. s.purged) kept;
      text = written ∙ ap (λ t. c.args.text.now.items ++ t) told;
    }

pub returns-clause-read : goal.returns-clause-read
returns-clause-read g c =
    let all = read-then c.in_ok-each_row.ensures.read c.in_ok-each_firm_line.ensures.read in
    grind (arith, ints, nat_tests, counted)
