use Rattle.sql_reads.proofs.Names.{rules, ◌≡◌, pos, ◌∷◌, Some, option_map, option_copied, slice_get, refl, sym, ap, ◌∙◌, to_z, w64, Int, Null, head_given, head_in, next_head_selects, numbered_from}
use Rattle.sql_reads.proofs.Shown.{next, no_next, numbered_back}
use Rattle.sql_reads.proofs.matter.next_head.Goals as goal

pub rows_of-requires-clause-select : goal.rows_of-requires-clause-select
rows_of-requires-clause-select g c = next_head_selects

pub returns-in_default-clause-found : goal.returns-in_default-clause-found
returns-in_default-clause-found g c l clean stands =
    sym (ap (option_map numbered_from) (no_next l _ stands _ _ refl _ _ (search rules) _ (c.in_ok-rows.ensures.shown clean)
    (sym (ap (λ l. slice_get l 0) c.deref.ensures.value) ∙ sym c.first.ensures.value ∙ ap option_copied c.in_default.is)))

pub returns-clause-found : goal.returns-clause-found
returns-clause-found g c l clean stands =
    let own : to_z w64 c.get.result ≡ pos c.in_ok-matter.matter = search rules in
    let it = next l _ stands _ _ refl _ _ (search rules) _ (c.in_ok-rows.ensures.shown clean) c.in-Some.row.now
    (sym (ap (λ l. slice_get l 0) c.deref.ensures.value) ∙ sym c.first.ensures.value ∙ ap option_copied c.in-Some.is) _
    (numbered_back c.in-Some.row.now _ _ (head_given c.in_ok-columns.columns) c.in_ok-matter.ensures
    (c.in_ok-columns.ensures.ok ∙ ap (λ n. head_in (Int n ∷ Null ∷ c.in-Some.row.now)) own)
    c.in_ok-head_of.ensures.form c.in_ok-head_of.ensures.ok) in
    ap Some it.is ∙ ap (option_map numbered_from) (sym it.found)
