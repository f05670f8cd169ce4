use Rattle.book_reports.proofs.Names.{◌∙◌, ◌++◌, ap, sym, refl, is_none, text_of, None, append-nil}
use Rattle.std.specs.Option.{option_map}
use Rattle.trust_reports.specs.Reconciliations.{told}
use Rattle.book_reports.proofs.ReconciliationAnswers.{closings-kept, stated}
use Rattle.book_reports.proofs.day_reports.append_reconciliation.Goals as goal

pub returns-in_default-clause-told : goal.returns-in_default-clause-told
returns-in_default-clause-told g c =
    λ clean stands.
    let B = g.B.Book in
    let firm = (B.seen c.args.book.now).firm in
    let sound = (B.seen c.args.book.now).sound stands in
    let sink = c.in_ok-sink.sink in
    let kept = c.in_ok-sink.ensures.kept clean stands in
    let found = c.in_ok-reconciliation.ensures (closings-kept c.args.as_of firm sink sound kept) in
    stated c.args.as_of firm sink sound kept _ None refl c.is_period_purged-is_purged.ensures
    (sym (ap (option_map told) c.in_default.is) ∙ found) c.args.text.now.items c.args.text.now.items (sym (append-nil c.args.text.now.items))

pub returns-clause-told : goal.returns-clause-told
returns-clause-told g c =
    λ clean stands.
    let B = g.B.Book in
    let firm = (B.seen c.args.book.now).firm in
    let sound = (B.seen c.args.book.now).sound stands in
    let sink = c.in_ok-sink.sink in
    let kept = c.in_ok-sink.ensures.kept clean stands in
    let found = c.in_ok-reconciliation.ensures (closings-kept c.args.as_of firm sink sound kept) in
    stated c.args.as_of firm sink sound kept _ (option_map told c.in_ok-reconciliation.field-0) (sym (ap (λ o. is_none (option_map told o)) c.in-Some.is)) c.is_period_purged-is_purged.ensures
    found c.args.text.now.items c.reconciliation_text.new.out.items
    (c.in_ok-reconciliation_text.ensures.ok ∙ sym (ap (λ o. c.args.text.now.items ++ text_of c.args.as_of (option_map told o)) c.in-Some.is))
