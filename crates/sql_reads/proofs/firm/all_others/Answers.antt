use Rattle.sql_reads.proofs.Names.{fold, sym, ap, subst, ◌∙◌, Database, state, Stands, firm_in}
use Rattle.sql_reads.proofs.Calls.{kept_by}
use Rattle.sql_reads.proofs.RowLists.{all_gathered, and_act, and_balance, and_dismissal, and_exception, and_firm_line}
use Rattle.sql_reads.proofs.firm.all_others.Goals as goal

pub returns-clause-read : goal.returns-clause-read
returns-clause-read g c l clean stands =
    let clean5 = c.each_listed-6.ensures.left.was_clean clean in
    let clean4 = c.each_listed-5.ensures.left.was_clean clean5 in
    let clean3 = c.each_listed-4.ensures.left.was_clean clean4 in
    let clean2 = c.each_listed-3.ensures.left.was_clean clean3 in
    let clean1 = c.each_listed-2.ensures.left.was_clean clean2 in
    let now1 = (kept_by _ _ _ _ c.in_ok-each_listed.was c.each_listed.ensures.left clean1).now in
    let now2 = (kept_by _ _ _ _ c.in_ok-each_listed-2.was c.each_listed-2.ensures.left clean2).now ∙ now1 in
    let now3 = (kept_by _ _ _ _ c.in_ok-each_listed-3.was c.each_listed-3.ensures.left clean3).now ∙ now2 in
    let now4 = (kept_by _ _ _ _ c.in_ok-each_listed-4.was c.each_listed-4.ensures.left clean4).now ∙ now3 in
    let now5 = (kept_by _ _ _ _ c.in_ok-each_listed-5.was c.each_listed-5.ensures.left clean5).now ∙ now4 in
    all_gathered (firm_in l (state g.S.Store c.args.conn.now).now.trees) _ _ _ _ _ _ _ c.new-lists.ensures
    (c.in_ok-each_listed.ensures.handed l clean1 stands).all
    ((c.in_ok-each_listed-2.ensures.handed l clean2 (subst (Stands l) (sym now1) stands)).all
    ∙ ap (λ (db : Database). fold and_firm_line c.each_listed.new.sink (firm_in l db.trees).firm_lines) now1)
    ((c.in_ok-each_listed-3.ensures.handed l clean3 (subst (Stands l) (sym now2) stands)).all
    ∙ ap (λ (db : Database). fold and_exception c.each_listed-2.new.sink (firm_in l db.trees).exceptions) now2)
    ((c.in_ok-each_listed-4.ensures.handed l clean4 (subst (Stands l) (sym now3) stands)).all
    ∙ ap (λ (db : Database). fold and_balance c.each_listed-3.new.sink (firm_in l db.trees).balances) now3)
    ((c.in_ok-each_listed-5.ensures.handed l clean5 (subst (Stands l) (sym now4) stands)).all
    ∙ ap (λ (db : Database). fold and_act c.each_listed-4.new.sink (firm_in l db.trees).acts) now4)
    ((c.in_ok-each_listed-6.ensures.handed l clean (subst (Stands l) (sym now5) stands)).all
    ∙ ap (λ (db : Database). fold and_dismissal c.each_listed-5.new.sink (firm_in l db.trees).dismissals) now5)
