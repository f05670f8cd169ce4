use Rattle.firm_figures.proofs.Names.{length, set, ◌-◌, ap, ◌∙◌, sym, w128, to_z-of_z, added}
use Rattle.std.proofs.Common.{ℤ}
use Rattle.firm_figures.specs.declared.clients_sink.ClientLine.{ClientLine}
use Rattle.firm_figures.proofs.ClientLasts.{last-on, last-off}
use Rattle.firm_figures.proofs.clients_sink.add_to_last.Goals as goal

pub returns-then-eq : goal.returns-then-eq
returns-then-eq c =
    let item = c.in-Some.ensures.item in
    ap (λ (l : ClientLine). set c.args.lines.now (length c.args.lines.now - 1) l) c.add.ensures
    ∙ ap (λ (a : ℤ). set c.args.lines.now (length c.args.lines.now - 1) (record c.in-Some.line.now { ledger = added c.in-Some.line.now.ledger a })) (to_z-of_z w128 c.args.amount c.ranges.amount)
    ∙ last-on c.args.matter c.args.amount c.args.lines.now c.in-Some.line.now item.3.0 item.1 (sym c.eq.ensures ∙ c.if-eq.true)

pub returns-else-eq : goal.returns-else-eq
returns-else-eq c =
    let item = c.in-Some.ensures.item in
    last-off c.args.matter c.args.amount c.args.lines.now c.in-Some.line.now item.3.0 item.1 (sym c.eq.ensures ∙ c.if-eq.false)
