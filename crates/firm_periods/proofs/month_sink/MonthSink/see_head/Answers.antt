use Rattle.std.proofs.Common.{◌∙◌, ap}
use Rattle.std.specs.Prelude.{◌||◌}
use Rattle.firm_rows.specs.Firm.{HeadRow}
use Rattle.firm_periods.specs.Month.{MonthKept, with_month_row}
use Rattle.firm_periods.specs.declared.named_sink.Pick.TheVariants as pick
use Rattle.firm_periods.proofs.month_sink.MonthSink.see_head.Goals as goal

pub returns-clause-ok : goal.returns-clause-ok
returns-clause-ok c =
    let old = c.self.inside in
    let day = c.is_head_purged_at.ensures in
    let month = c.is_head_purged_within.ensures in
    let period = c.is_head_purged_within-2.ensures in
    (λ i. record {
      reconciliation = c.see_head-2.ensures c.args.matter i;
      clients = c.in_ok-see_head.ensures.ok i;
      transit = record {
        pick = pick.Transit old.day;
        client = c.in_ok-client.ensures i;
        lines = old.lists.transit.items;
        purged = day i || old.day_purged;
      };
      outstanding = record {
        pick = pick.Outstanding old.day;
        client = c.in_ok-client.ensures i;
        lines = old.lists.outstanding.items;
        purged = day i || old.day_purged;
      };
      receipts = record {
        pick = pick.Receipts old.month;
        client = c.in_ok-client.ensures i;
        lines = old.lists.receipts.items;
        purged = month i || old.month_purged;
      };
      disbursements = record {
        pick = pick.Disbursements old.month;
        client = c.in_ok-client.ensures i;
        lines = old.lists.disbursements.items;
        purged = month i || old.month_purged;
      };
      approvals = record {
        period = old.period;
        acts = old.acts.items;
        lines = old.lists.issued.items;
        purged = period i || old.period_purged;
      };
    })
    ∙ ap (λ (s : MonthKept). with_month_row s (c.args.matter, HeadRow c.args.head.now)) c.self.view_is
