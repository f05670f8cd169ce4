use Rattle.sql_reads.proofs.Names.{sym, ap, subst, ◌∙◌, Database, state, Stands, Part, IsWhole, of, lists_in, firm_in, part_at}
use Rattle.sql_reads.proofs.Calls.{kept_by}
use Rattle.sql_reads.proofs.Parts.{parts_whole, read_part}
use Rattle.sql_reads.proofs.matter.whole_matter.Goals as goal

pub returns-clause-read : goal.returns-clause-read
returns-clause-read g c l clean stands =
    let clean1 = c.entries_of.ensures.left.was_clean clean in
    let now = (kept_by _ _ _ _ c.in_ok-opened.was c.head_and_seats.ensures.left clean1).now in
    let kept = c.in_ok-kept.ensures.found l clean (subst (Stands l) (sym now) stands)
    ∙ ap (λ (db : Database). (part_at c.args.matter (lists_in l db.trees)).kept) now in
    let read = c.in_ok-opened.ensures in
    c.in_ok-found.ensures
    ∙ read_part c.args.matter (lists_in l (state g.S.Store c.args.conn.now).now.trees) _ (read.head l clean1 stands) _
    (read.seats l clean1 stands) _ kept

pub returns-clause-found : goal.returns-clause-found
returns-clause-found g c l clean stands =
    let firm = firm_in l (state g.S.Store c.args.conn.now).now.trees in
    subst (λ (q : Part). IsWhole q (of c.args.matter firm)) (sym (returns-clause-read g c l clean stands.tables))
    (parts_whole c.args.matter _ stands.rows)
