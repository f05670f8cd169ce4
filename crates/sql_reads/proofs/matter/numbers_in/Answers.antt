use Rattle.sql_reads.proofs.Names.{rules, ◌≡◌, pos, [], ◌∷◌, map, sym, ap, ◌∙◌, map-append, Int, column, Head, no_shown}
use Rattle.sql_reads.proofs.Gathered.{one_more}
use Rattle.sql_reads.proofs.matter.numbers_in.Goals as goal

pub each-preserved : goal.each-preserved
each-preserved c hs is =
    ap (map pos) c.in_ok-push.ensures.items
    ∙ map-append pos c.each.numbers.items (c.in_ok-number.number ∷ [])
    ∙ one_more no_shown (λ (h : Head). h.no) c.row-item.result (pos c.in_ok-number.number)
    (λ x shows. let e : Int (pos c.in_ok-number.number) ≡ Int x.no = sym c.in_ok-number.ensures ∙ ap (λ r. column r 0) shows in cc)
    hs c.args.rows.now c.each.row-index (map pos c.each.numbers.items) is (search rules) c.row-item.is (c.each.invariant hs is)
