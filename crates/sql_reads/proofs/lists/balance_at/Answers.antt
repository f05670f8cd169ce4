use Rattle.sql_reads.proofs.Names.{rules, ◌≡◌, pos, [], ◌∷◌, Some, find, option_map, option_copied, slice_get, sym, ap, ap₂, ◌∙◌, to_z, of_z, w64, Int, state, Balance, balance_shown, is_balance_at, balances_in, answers, balance_read_asks, balance_read_selects, balance_read_answer, kind_column}
use Rattle.sql_reads.proofs.BalancesRead.{kept_is_found, amount_shown}
use Rattle.sql_reads.proofs.Firsts.{none_first, some_first}
use Rattle.sql_reads.proofs.lists.balance_at.Goals as goal

pub rows_of-requires-clause-select : goal.rows_of-requires-clause-select
rows_of-requires-clause-select g c = balance_read_selects

pub returns-in-None-clause-found : goal.returns-in-None-clause-found
returns-in-None-clause-found g c l clean stands =
    let s0 = state g.S.Store c.args.conn.now in
    let bs = balances_in l s0.now.trees in
    let k = to_z w64 (of_z w64 c.kind_column.result) in
    let d = to_z w64 c.get.result in
    let of_kind : k ≡ kind_column c.args.kind = search rules in
    let on_day : d ≡ pos c.args.day = search rules in
    let is = balance_read_answer l s0.now k d stands.tables _ (answers (balance_read_asks l) (Int k ∷ Int d ∷ []) s0 (state g.S.Store c.rows_of.new.conn) stands.tables.schema _ (c.in_ok-rows.ensures.shown clean)) in
    let none = none_first balance_shown (is_balance_at k d) bs c.in_ok-rows.rows.items is (sym (ap (λ l. slice_get l 0) c.deref.ensures.value) ∙ sym c.first.ensures.value ∙ ap option_copied c.in-None.is) in
    let same = ap₂ (λ a b. find (is_balance_at a b) bs) (sym of_kind) (sym on_day) in
    sym (kept_is_found c.args.kind c.args.day bs stands.rows.meant.written.balances stands.rows.sound.in_order.balances ∙ ap (option_map (λ (b : Balance). b.amount)) (same ∙ none))

pub returns-clause-found : goal.returns-clause-found
returns-clause-found g c l clean stands =
    let s0 = state g.S.Store c.args.conn.now in
    let bs = balances_in l s0.now.trees in
    let k = to_z w64 (of_z w64 c.kind_column.result) in
    let d = to_z w64 c.get.result in
    let of_kind : k ≡ kind_column c.args.kind = search rules in
    let on_day : d ≡ pos c.args.day = search rules in
    let is = balance_read_answer l s0.now k d stands.tables _ (answers (balance_read_asks l) (Int k ∷ Int d ∷ []) s0 (state g.S.Store c.rows_of.new.conn) stands.tables.schema _ (c.in_ok-rows.ensures.shown clean)) in
    let one = some_first balance_shown (is_balance_at k d) bs c.in_ok-rows.rows.items is c.in-Some.row.now (sym (ap (λ l. slice_get l 0) c.deref.ensures.value) ∙ sym c.first.ensures.value ∙ ap option_copied c.in-Some.is) in
    let same = ap₂ (λ a b. find (is_balance_at a b) bs) (sym of_kind) (sym on_day) in
    let same_amount : to_z w64 (of_z w64 c.in_ok-amount_at-in-Some.field-0) ≡ c.in_ok-amount_at-in-Some.field-0 = search rules in
    ap Some (same_amount ∙ amount_shown one.one c.in-Some.row.now _ one.shows c.in_ok-amount_at-in-Some.ensures.ok.0)
    ∙ sym (kept_is_found c.args.kind c.args.day bs stands.rows.meant.written.balances stands.rows.sound.in_order.balances ∙ ap (option_map (λ (b : Balance). b.amount)) (same ∙ one.found_one))
