use Rattle.firm_periods.proofs.Names.{rules, IsSortedBy, answers_always}
use Rattle.firm_periods.specs.Accounts.{is_before_moved}
use Rattle.firm_periods.proofs.AccountsCovered.{moved-order}
use Rattle.firm_figures.proofs.Sorted.{sorted-is}
use Rattle.firm_periods.proofs.account.in_order.Goals as goal

pub returns : goal.returns
returns c =
    let sorted : IsSortedBy is_before_moved c.sort_by.new.self.items =
    c.in_ok-sort_by.ensures.sorted is_before_moved moved-order (answers_always _ _ _ (λ f a r g h. search rules)) in
    sorted-is is_before_moved moved-order c.args.moves.items c.sort_by.new.self.items sorted
    (c.sort_by.ensures.stable is_before_moved moved-order (answers_always _ _ _ (λ f a r g h. search rules)))
