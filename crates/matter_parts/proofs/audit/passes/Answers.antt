use Rattle.matter_parts.proofs.Names.{arith, false≢true, length-map}
use Rattle.matter_parts.proofs.Audited.{fails, to-tests, from-tests}
use Rattle.matter_parts.proofs.WholeRows.{named-of}
use Rattle.matter_parts.proofs.audit.passes.Goals as goal

pub returns-then-not-are_in_order : goal.returns-then-not-are_in_order
returns-then-not-are_in_order c = grind (arith, fails, to-tests)

pub returns-then-not-are_in_form : goal.returns-then-not-are_in_form
returns-then-not-are_in_form c =
    fails c.args.matter.now _ _ c.if-not-are_in_form.true c.are_in_form.ensures
    (λ s. rw (c.requires.head, c.seats-seats.ensures, c.requires.entries) (to-tests _ s).form)

pub are_totals-requires-clause-named : goal.are_totals-requires-clause-named
are_totals-requires-clause-named c = named-of c.args.head.now c.seats-seats.result.now c.args.entries.now (c.are_in_form.ensures.0 c.if-not-are_in_form.false)

pub returns-then-not-are_totals : goal.returns-then-not-are_totals
returns-then-not-are_totals c = grind (arith, false≢true, to-tests)

pub returns-then-not-is_empty_if_closed : goal.returns-then-not-is_empty_if_closed
returns-then-not-is_empty_if_closed c =
    fails c.args.matter.now _ _ c.if-not-is_empty_if_closed.true c.is_empty_if_closed.ensures
    (λ s. rw (c.requires.head, c.figures-figures.ensures.is) (to-tests _ s).empty)

pub returns : goal.returns
returns c = grind (arith, false≢true, to-tests, from-tests, length-map)
