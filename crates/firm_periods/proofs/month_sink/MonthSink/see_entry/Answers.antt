use Rattle.std.proofs.Common.{◌++◌, ◌∙◌, ap}
use Rattle.firm_rows.specs.Firm.{EntryRow}
use Rattle.firm_periods.specs.Month.{MonthKept, with_month_row}
use Rattle.firm_periods.specs.declared.named_sink.Pick.TheVariants as pick
use Rattle.firm_periods.proofs.month_sink.MonthSink.see_entry.Goals as goal

pub returns-clause-ok : goal.returns-clause-ok
returns-clause-ok c =
    let old = c.self.inside in
    let taken = c.push_to.ensures in
    let same = c.in_ok-make_room.ensures.same in
    let shares = c.in_ok-shares.ensures in
    (λ i. record {
      reconciliation = c.in_ok-see_entry.ensures.ok i;
      clients = c.see_entry-2.ensures c.args.number i;
      transit = record {
        pick = pick.Transit old.day;
        client = old.client;
        lines = (taken.transit ∙ (λ j. same.transit j ++ shares.transit j)) i;
        purged = old.day_purged;
      };
      outstanding = record {
        pick = pick.Outstanding old.day;
        client = old.client;
        lines = (taken.outstanding ∙ (λ j. same.outstanding j ++ shares.outstanding j)) i;
        purged = old.day_purged;
      };
      receipts = record {
        pick = pick.Receipts old.month;
        client = old.client;
        lines = (taken.receipts ∙ (λ j. same.receipts j ++ shares.receipts j)) i;
        purged = old.month_purged;
      };
      disbursements = record {
        pick = pick.Disbursements old.month;
        client = old.client;
        lines = (taken.disbursements ∙ (λ j. same.disbursements j ++ shares.disbursements j)) i;
        purged = old.month_purged;
      };
      approvals = record {
        period = old.period;
        acts = old.acts.items;
        lines = (taken.issued ∙ (λ j. same.issued j ++ shares.issued j)) i;
        purged = old.period_purged;
      };
    })
    ∙ ap (λ (s : MonthKept). with_month_row s (c.args.matter, EntryRow c.args.number c.args.entry.now)) c.self.view_is
