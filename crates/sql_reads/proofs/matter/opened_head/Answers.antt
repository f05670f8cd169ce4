use Rattle.sql_reads.proofs.Names.{rules, ◌≡◌, pos, [], ◌∷◌, find, Some, option_map, option_copied, slice_get, sym, ap, ◌∙◌, to_z, w64, Int, state, heads_in, head_shown, is_head, answers, head_read_asks, head_read_selects, head_read_answer, with_totals_from}
use Rattle.sql_reads.proofs.Firsts.{none_first, some_first}
use Rattle.sql_reads.proofs.matter.opened_head.Goals as goal

pub rows_of-requires-clause-select : goal.rows_of-requires-clause-select
rows_of-requires-clause-select g c = head_read_selects

pub returns-in-None-clause-found : goal.returns-in-None-clause-found
returns-in-None-clause-found g c l clean stands =
    let s0 = state g.S.Store c.args.conn.now in
    let hs = heads_in l s0.now.trees in
    let z = to_z w64 c.get.result in
    let own : z ≡ pos c.args.matter = search rules in
    let is = head_read_answer l s0.now z stands _ (answers (head_read_asks l) (Int z ∷ []) s0 (state g.S.Store c.rows_of.new.conn) stands.schema _ (c.in_ok-rows.ensures.shown clean)) in
    let none = none_first head_shown (is_head z) hs c.in_ok-rows.rows.items is (sym (ap (λ l. slice_get l 0) c.deref.ensures.value) ∙ sym c.first.ensures.value ∙ ap option_copied c.in-None.is) in
    sym (ap (option_map with_totals_from) (ap (λ z. find (is_head z) hs) (sym own) ∙ none))

pub returns-clause-found : goal.returns-clause-found
returns-clause-found g c l clean stands =
    let s0 = state g.S.Store c.args.conn.now in
    let hs = heads_in l s0.now.trees in
    let z = to_z w64 c.get.result in
    let own : z ≡ pos c.args.matter = search rules in
    let is = head_read_answer l s0.now z stands _ (answers (head_read_asks l) (Int z ∷ []) s0 (state g.S.Store c.rows_of.new.conn) stands.schema _ (c.in_ok-rows.ensures.shown clean)) in
    let one = some_first head_shown (is_head z) hs c.in_ok-rows.rows.items is c.in-Some.row.now (sym (ap (λ l. slice_get l 0) c.deref.ensures.value) ∙ sym c.first.ensures.value ∙ ap option_copied c.in-Some.is) in
    ap Some (c.in_ok-read_head-in-Some.ensures one.one one.shows)
    ∙ sym (ap (option_map with_totals_from) (ap (λ z. find (is_head z) hs) (sym own) ∙ one.found_one))
