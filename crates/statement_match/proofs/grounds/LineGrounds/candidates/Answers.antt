use Rattle.statement_match.proofs.Names.{filter, elements, is_shown, arith, ints, nat_tests}
use Rattle.statement_match.proofs.EntriesKept.{amount_kept, held_kept, named_kept, shown_kept}
use Rattle.statement_match.proofs.grounds.LineGrounds.candidates.Goals as goal

pub returns-in-Fitted : goal.returns-in-Fitted
returns-in-Fitted c = grind (arith, ints, nat_tests, filter, is_shown, elements, shown_kept)

pub returns-in-OfItsAmount : goal.returns-in-OfItsAmount
returns-in-OfItsAmount c = grind (arith, ints, nat_tests, amount_kept)

pub returns-in-Named : goal.returns-in-Named
returns-in-Named c = grind (arith, ints, nat_tests, named_kept)

pub returns-in-HeldOn : goal.returns-in-HeldOn
returns-in-HeldOn c = λ today.
    let inside = c.self.inside in
    rw (← c.self.view_is)
    (held_kept c.args.relation today inside.line.now inside.grounds.now.known.entries c.of_day.result.now
    c.in-HeldOn.day c.in-HeldOn.is c.of_day.ensures)
