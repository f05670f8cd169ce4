use Rattle.book_reports.proofs.Names.{rules, ◌≡◌, ◌++◌, ◌∙◌, clients_text, is_none, sym}
use Rattle.std.specs.Prelude.{◌||◌}
use Rattle.std.specs.Option.{option_map}
use Rattle.trust_reports.specs.Reconciliations.{told}
use Rattle.trust_reports.specs.TextsOfActs.{approvals_text}
use Rattle.book_reports.proofs.PacketTold.{month-told}
use Rattle.book_reports.proofs.ReconciliationAnswers.{closings-kept, none-map}
use Rattle.book_reports.proofs.month.push_month.Goals as goal

pub returns : goal.returns
returns c =
    λ firm sound is.
    let day = c.args.day in
    let read = c.args.read in
    let month = c.month_to-month.result in
    let none : c.is_none-lacks_statement.result ≡ is_none c.in_ok-found.found = search rules in
    let lines : c.deref.result.now ≡ c.finish-clients.result.lines.items = search rules in
    let listed : c.clients_text.new.out.items ≡ c.push.new.self.items ++ clients_text day c.deref.result.now c.finish-clients.result.own c.finish-clients.result.total = search rules in
    let approved : c.deref-2.result.now ≡ read.parts.approvals.items = search rules in
    let unread : c.deref-3.result.now ≡ read.unread.items = search rules in
    month-told day month firm read
    (record { lacks_statement = c.is_none-lacks_statement.result; is_purged = c.is_period_purged.result || read.parts.is_purged })
    (option_map told c.in_ok-found.found)
    c.deref.result.now c.finish-clients.result.own c.finish-clients.result.total
    c.args.text.now.items c.append_found.new.text.items c.push.new.self.items c.clients_text.new.out.items c.push-2.new.self.items
    c.outstanding_text.new.out.items c.push-3.new.self.items c.receipts_text.new.out.items c.push-4.new.self.items
    c.disbursements_text.new.out.items c.push-5.new.self.items c.approvals_text.new.out.items
    c.month_to-month.ensures sound is
    (c.in_ok-found.ensures (closings-kept day firm read.parts.reconciliation sound is.reconciliation))
    (none ∙ sym (none-map told c.in_ok-found.found))
    (λ i. c.is_period_purged.ensures i || read.parts.is_purged)
    (lines ∙ c.finish-clients.ensures.lines) c.finish-clients.ensures.own c.finish-clients.ensures.total
    c.in_ok-append_found.ensures c.in_ok-push.ensures.items
    listed c.in_ok-push-2.ensures.items
    c.in_ok-outstanding_text.ensures.ok c.in_ok-push-3.ensures.items
    c.in_ok-receipts_text.ensures.ok c.in_ok-push-4.ensures.items
    c.in_ok-disbursements_text.ensures.ok c.in_ok-push-5.ensures.items
    (c.in_ok-approvals_text.ensures.ok ∙ (λ i. c.push-5.new.self.items ++ approvals_text month (approved i) (unread i)))
