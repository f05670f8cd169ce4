use Rattle.sql_reads.proofs.Names.{rules, ◌≡◌, ap, ◌∙◌, firm_line_values, firm_line_from, firm_line_at}
use Rattle.sql_reads.proofs.Gathered.{one_more}
use Rattle.sql_reads.proofs.lists.ledger_of.Goals as goal

pub each-preserved : goal.each-preserved
each-preserved c xs is =
    let shows : c.in_ok-line.line ≡ firm_line_at c.row-item.result = search rules in
    c.in_ok-add_within.ensures.added
    ∙ one_more firm_line_values firm_line_from c.row-item.result c.in_ok-line.line (λ x e. shows ∙ ap firm_line_at e) xs c.args.rows.now c.each.row-index c.each.ledger is (search rules) c.row-item.is (c.each.invariant xs is)
