use Rattle.firm_periods.proofs.Names.{rules, IsSortedBy, answers_always}
use Rattle.firm_periods.specs.Approvals.{is_issued_earlier}
use Rattle.firm_periods.proofs.Approvals.{issued_order}
use Rattle.firm_figures.proofs.Sorted.{sorted-is}
use Rattle.firm_periods.proofs.approvals_sink.by_issue.Goals as goal

pub returns : goal.returns
returns c =
    let sorted : IsSortedBy is_issued_earlier c.sort_by.new.self.items =
    c.in_ok-sort_by.ensures.sorted is_issued_earlier issued_order (answers_always _ _ _ (λ f a r g h. search rules)) in
    sorted-is is_issued_earlier issued_order c.args.lines.items c.sort_by.new.self.items sorted
    (c.sort_by.ensures.stable is_issued_earlier issued_order (answers_always _ _ _ (λ f a r g h. search rules)))
