use Rattle.std.proofs.Common.{◌∙◌, ap}
use Rattle.firm_figures.specs.Doubles.{in_order}
use Rattle.firm_periods.specs.Approvals.{approvals_of}
use Rattle.firm_periods.specs.Month.{MonthKept}
use Rattle.firm_periods.specs.Named.{is_earlier, named_sum}
use Rattle.firm_periods.proofs.month_sink.MonthSink.finish.Goals as goal

pub returns : goal.returns
returns c =
    let is = c.self.view_is in
    let transit = c.in_ok-named_list.ensures in
    let outstanding = c.in_ok-named_list-2.ensures in
    let receipts = c.in_ok-named_list-3.ensures in
    let disbursements = c.in_ok-named_list-4.ensures in
    record {
      reconciliation = ap (λ (s : MonthKept). s.reconciliation) is;
      clients = ap (λ (s : MonthKept). s.clients) is;
      transit = record {
        moves = transit.moves ∙ ap (λ (s : MonthKept). in_order is_earlier s.transit.lines) is;
        total = transit.total ∙ ap (λ (s : MonthKept). named_sum s.transit) is;
      };
      outstanding = record {
        moves = outstanding.moves ∙ ap (λ (s : MonthKept). in_order is_earlier s.outstanding.lines) is;
        total = outstanding.total ∙ ap (λ (s : MonthKept). named_sum s.outstanding) is;
      };
      receipts = record {
        moves = receipts.moves ∙ ap (λ (s : MonthKept). in_order is_earlier s.receipts.lines) is;
        total = receipts.total ∙ ap (λ (s : MonthKept). named_sum s.receipts) is;
      };
      disbursements = record {
        moves = disbursements.moves ∙ ap (λ (s : MonthKept). in_order is_earlier s.disbursements.lines) is;
        total = disbursements.total ∙ ap (λ (s : MonthKept). named_sum s.disbursements) is;
      };
      approvals = c.in_ok-approved_list.ensures ∙ ap (λ (s : MonthKept). approvals_of s.approvals) is;
      purged = ap (λ (s : MonthKept). s.approvals.purged) is;
    }
