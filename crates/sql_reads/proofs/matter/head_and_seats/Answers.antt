use Rattle.sql_reads.proofs.Names.{sym, ap, subst, ◌∙◌, Database, Stands, lists_in, part_at}
use Rattle.sql_reads.proofs.Calls.{kept_by}
use Rattle.sql_reads.proofs.matter.head_and_seats.Goals as goal

pub returns-clause-head : goal.returns-clause-head
returns-clause-head g c l clean stands =
    c.in_ok-opened.ensures.found l (c.seats_of_matter.ensures.left.was_clean clean) stands

pub returns-clause-seats : goal.returns-clause-seats
returns-clause-seats g c l clean stands =
    let clean1 = c.seats_of_matter.ensures.left.was_clean clean in
    let now = (kept_by _ _ _ _ c.in_ok-opened.was c.opened_head.ensures.left clean1).now in
    c.in_ok-seats.ensures.found l clean (subst (Stands l) (sym now) stands)
    ∙ ap (λ (db : Database). (part_at c.args.matter (lists_in l db.trees)).seats) now
