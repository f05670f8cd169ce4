use Rattle.firm_figures.proofs.Names.{rules, ◌≡◌, ◌∙◌, ap, subst, sym, IsSortedBy, take_all, answers_always, is_before_issued, is_double_in, in_order}
use Rattle.std.proofs.Common.{filter}
use Rattle.firm_figures.proofs.DoubleRows.{doubles-of, issued_order}
use Rattle.firm_figures.proofs.Sorted.{sorted-is}
use Rattle.firm_figures.proofs.day_lists.doubles_of.Goals as goal

pub is_double-requires-clause-order : goal.is_double-requires-clause-order
is_double-requires-clause-order c =
    subst (IsSortedBy is_before_issued) (sym c.as_slice-sorted.ensures.value)
    (c.in_ok-sort_by.ensures.sorted is_before_issued issued_order (answers_always _ _ _ (λ f a r g h. search rules)))

pub returns : goal.returns
returns c =
    let sorted : IsSortedBy is_before_issued c.sort_by.new.self.items =
    c.in_ok-sort_by.ensures.sorted is_before_issued issued_order (answers_always _ _ _ (λ f a r g h. search rules)) in
    let same : c.sort_by.new.self.items ≡ in_order is_before_issued c.args.issued.items =
    sorted-is is_before_issued issued_order c.args.issued.items c.sort_by.new.self.items sorted
    (c.sort_by.ensures.stable is_before_issued issued_order (answers_always _ _ _ (λ f a r g h. search rules))) in
    c.loop-place.invariant
    ∙ (ap (filter (is_double_in c.as_slice-sorted.result.now)) (take_all c.loop-place.place c.as_slice-sorted.result.now c.loop-place-test.false)
    ∙ doubles-of c.args.issued.items c.as_slice-sorted.result.now (c.as_slice-sorted.ensures.value ∙ same))
