use Rattle.firm_periods.proofs.Names.{rules, IsSortedBy, answers_always}
use Rattle.firm_periods.specs.Named.{is_earlier}
use Rattle.firm_periods.proofs.Picks.{earlier_order}
use Rattle.firm_figures.proofs.Sorted.{sorted-is}
use Rattle.firm_periods.proofs.named_sink.by_day.Goals as goal

pub returns : goal.returns
returns c =
    let sorted : IsSortedBy is_earlier c.sort_by.new.self.items =
    c.in_ok-sort_by.ensures.sorted is_earlier earlier_order (answers_always _ _ _ (λ f a r g h. search rules)) in
    sorted-is is_earlier earlier_order c.args.lines.items c.sort_by.new.self.items sorted
    (c.sort_by.ensures.stable is_earlier earlier_order (answers_always _ _ _ (λ f a r g h. search rules)))
