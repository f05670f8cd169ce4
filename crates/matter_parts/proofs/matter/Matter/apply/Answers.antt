use Rattle.matter_parts.proofs.Names.{sym, ◌∙◌, arith, held, whole}
use Rattle.matter_parts.proofs.Applied.{after-append, after-exchange, after-nothing, after-open, after-seat, after-unseat, after-close, after-purge, ok-map, ok-both}
use Rattle.matter_parts.proofs.matter.Matter.apply.Goals as goal

pub returns-in-Nothing : goal.returns-in-Nothing
returns-in-Nothing c = grind (arith, after-nothing)

pub returns-in-Open : goal.returns-in-Open
returns-in-Open c =
    let a = ok-map _ _ c.open.result c.open.ensures.ok (after-open c.args.self.now c.open.new.self c.args.change.now
    c.in-Open.opening (sym c.edit.ensures ∙ c.in-Open.is)) in
    grind (arith)

pub returns-in-Seat : goal.returns-in-Seat
returns-in-Seat c =
    let a = ok-both _ _ _ c.seat.result c.seat.ensures.ok c.seat.ensures.seats (after-seat c.args.self.now
    c.seat.new.self c.args.change.now c.in-Seat.seat c.last.result (sym c.edit.ensures ∙ c.in-Seat.is) c.last.ensures)
    in
    grind (arith)

pub returns-in-Unseat : goal.returns-in-Unseat
returns-in-Unseat c =
    let a = after-unseat c.args.self.now c.unseat.new.self c.args.change.now c.in-Unseat.person c.last-in-Unseat.result (sym c.edit.ensures ∙ c.in-Unseat.is) c.last-in-Unseat.ensures c.unseat.ensures in
    record { ok = a.part; held = a.held; whole = a.whole; err = tt }

pub returns-in-Append : goal.returns-in-Append
returns-in-Append c =
    let a = ok-map _ _ c.keep.result c.keep.ensures.ok (after-append c.args.self.now c.keep.new.self c.args.change.now
    c.in-Append.added c.moves.result c.last-in-Append.result (sym c.edit.ensures ∙ c.in-Append.is) c.moves.ensures.is
    c.last-in-Append.ensures) in
    grind (arith)

pub returns-in-Exchange : goal.returns-in-Exchange
returns-in-Exchange c = record {
  ok = ok-map _ _ c.keep-in-Exchange.result c.keep-in-Exchange.ensures.ok (λ a. (after-exchange c.args.self.now c.keep-in-Exchange.new.self c.args.change.now c.in-Exchange.changed c.moves-in-Exchange.result c.last-in-Exchange.result (sym c.edit.ensures ∙ c.in-Exchange.is) c.moves-in-Exchange.ensures.is c.last-in-Exchange.ensures a).part);
  held = ok-map _ _ c.keep-in-Exchange.result c.keep-in-Exchange.ensures.ok (λ a. (after-exchange c.args.self.now c.keep-in-Exchange.new.self c.args.change.now c.in-Exchange.changed c.moves-in-Exchange.result c.last-in-Exchange.result (sym c.edit.ensures ∙ c.in-Exchange.is) c.moves-in-Exchange.ensures.is c.last-in-Exchange.ensures a).held);
  whole = ok-map _ _ c.keep-in-Exchange.result c.keep-in-Exchange.ensures.ok (λ a. (after-exchange c.args.self.now c.keep-in-Exchange.new.self c.args.change.now c.in-Exchange.changed c.moves-in-Exchange.result c.last-in-Exchange.result (sym c.edit.ensures ∙ c.in-Exchange.is) c.moves-in-Exchange.ensures.is c.last-in-Exchange.ensures a).whole);
  err = c.keep-in-Exchange.ensures.err;
}

pub returns-in-Close : goal.returns-in-Close
returns-in-Close c =
    let a = after-close c.args.self.now c.close.new.self c.args.change.now c.in-Close.day c.last-in-Close.result (sym c.edit.ensures ∙ c.in-Close.is) c.last-in-Close.ensures c.close.ensures in
    record { ok = a.part; held = a.held; whole = a.whole; err = tt }

pub returns-in-Purge : goal.returns-in-Purge
returns-in-Purge c =
    let a = after-purge c.args.self.now c.purge.new.self c.args.change.now c.in-Purge.day c.last-in-Purge.result (sym c.edit.ensures ∙ c.in-Purge.is) c.last-in-Purge.ensures c.purge.ensures in
    record { ok = a.part; held = a.held; whole = a.whole; err = tt }
